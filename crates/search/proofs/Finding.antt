-- What the first row whose key is at least x says of the row of a state and a terminal.
-- Assumes nothing.
use mathlib.Core.Path.{◌≡◌, refl, sym, ap, ◌∙◌}
use mathlib.Core.Bool.{Bool, true, false, ◌&&◌, cond}
use mathlib.Core.Option.{none, some}
use mathlib.Core.List.{List}
use Prim.Native.Nat.{ℕ, zero, suc, ◌+◌, ◌*◌, ◌/◌, ◌≤◌, ◌<◌}
use native.Mathlib.Omega.{arith}
use native.Mathlib.Numerals.{add-one}
use borrow.Author.Tests.{eq-eqb, ne_eqb}
use lib.Dec.{eqb}
use lib.ListN.{length}
use lib.IntN.{ℤ}
use Rattle.paper.specs.Rows.{Row, rows_in, find}
use Rattle.rows.specs.Places.{row_at, rest, key}
use Rattle.rows.specs.Passed.{Passed}
use Rattle.search.specs.Search.{Lower}
use Rattle.rows.proofs.Rest.{rest_cons, rest_end}
use Rattle.rows.proofs.Keys.{compared}
use Rattle.rows.proofs.Passing.{fit_at, keys_rise}

-- a row is for a state and a terminal exactly when it has their key
for_key : (r : Row) (s t : ℕ) → r.terminal ≤ 65535 → t ≤ 65535 → key r ≡ s * 65536 + t
    → (eqb r.from s && eqb r.terminal t) ≡ true
for_key r s t h k e =
    let a : r.from ≡ s = omega arith in
    let b : r.terminal ≡ t = omega arith in
    simp (eq-eqb _ _ a, eq-eqb _ _ b)

other_key : (r : Row) (s t : ℕ) → (key r ≡ s * 65536 + t → ⊥) → (eqb r.from s && eqb r.terminal t) ≡ false
other_key r s t n = compared r.from s
    (λ l. let d : r.from ≡ s → ⊥ = λ e. omega arith in simp (ne_eqb _ _ d))
    (λ e. let d : r.terminal ≡ t → ⊥ = λ q. n (omega arith) in simp (eq-eqb _ _ e, ne_eqb _ _ d))
    (λ l. let d : r.from ≡ s → ⊥ = λ e. omega arith in simp (ne_eqb _ _ d))

module _ (ns : List ℤ) (s t : ℕ) where
  find_here : (i : ℕ) → i * 4 + 3 < length ns → (eqb (row_at ns i).from s && eqb (row_at ns i).terminal t) ≡ true
      → find (rest ns i) s t ≡ some (row_at ns i)
  unfolding find
  find_here i l e =
      ap (λ (rs : List Row). find rs s t) (rest_cons ns i l)
      ∙ ap (λ (b : Bool). cond b (some (row_at ns i)) (find (rest ns (i + 1)) s t)) e

  find_next : (i : ℕ) → i * 4 + 3 < length ns → (eqb (row_at ns i).from s && eqb (row_at ns i).terminal t) ≡ false
      → find (rest ns i) s t ≡ find (rest ns (i + 1)) s t
  unfolding find
  find_next i l e =
      ap (λ (rs : List Row). find rs s t) (rest_cons ns i l)
      ∙ ap (λ (b : Bool). cond b (some (row_at ns i)) (find (rest ns (i + 1)) s t)) e

  -- rows with another key are passed over
  find_past : (i : ℕ) → i ≤ length ns / 4 → ((j : ℕ) → j < i → key (row_at ns j) ≡ s * 65536 + t → ⊥)
      → find (rows_in ns) s t ≡ find (rest ns i) s t
  find_past zero h n = refl
  find_past (suc i) h n =
      find_past i (omega arith) (λ j l. n j (omega arith))
      ∙ find_next i (omega arith) (other_key (row_at ns i) s t (n i (omega arith)))
      ∙ rw add-one

  find_none : ((j : ℕ) → j < length ns / 4 → key (row_at ns j) ≡ s * 65536 + t → ⊥) → find (rows_in ns) s t ≡ none
  unfolding find
  find_none n =
      find_past (length ns / 4) (omega arith) n
      ∙ ap (λ (rs : List Row). find rs s t) (rest_end ns (length ns / 4) (omega arith))

  module _ (i : ℕ) (b : Lower ns (s * 65536 + t) i) where
    -- the row at i has the key
    pub found : Passed ns → t ≤ 65535 → i < length ns / 4 → key (row_at ns i) ≡ s * 65536 + t
        → find (rows_in ns) s t ≡ some (row_at ns i)
    found p k l e =
        find_past i b.within (λ j h d. omega (arith, b.below j h))
        ∙ find_here i (omega arith) (for_key (row_at ns i) s t (fit_at p i l).terminal k e)

    -- no row has it
    pub missing_end : length ns / 4 ≤ i → find (rows_in ns) s t ≡ none
    missing_end l = find_none (λ j h d. omega (arith, b.below j (omega arith)))

    pub missing_here : Passed ns → i < length ns / 4 → (key (row_at ns i) ≡ s * 65536 + t → ⊥)
        → find (rows_in ns) s t ≡ none
    missing_here p l n = find_none (λ j h d. compared j i
        (λ q. omega (arith, b.below j q))
        (λ q. n (sym (ap (λ (m : ℕ). key (row_at ns m)) q) ∙ d))
        (λ q. omega (arith, keys_rise p i j q h, b.above i (omega arith) l)))
