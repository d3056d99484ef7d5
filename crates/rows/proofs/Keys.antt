-- Rows rise as their keys do, where terminals are within their bounds.
-- Assumes nothing.
use mathlib.Core.Path.{◌≡◌, ap, sym, ◌∙◌}
use mathlib.Core.Bool.{Bool, true, false, ◌&&◌}
use mathlib.Core.List.{List, ◌∷◌}
use Prim.Native.Nat.{ℕ, ◌+◌, ◌*◌, ◌<◌, ◌≤◌}
use native.Mathlib.Omega.{arith}
use borrow.Author.Tests.{lt-ltb, le-ltb, eq-eqb, ne_eqb, ltb-true, ltb-false, eqb-true, eqb-false}
use lib.Dec.{ltb, eqb}
use lib.ListN.{length}
use lib.IntN.{ℤ}
use Rattle.paper.specs.Rows.{Row, rows_in}
use Rattle.paper.specs.Checks.{every, row_fits, before, rising}
use Rattle.rows.specs.Places.{row_at, rest, key}
use Rattle.rows.proofs.Rest.{by_test, by_place, rest_cons, rest_end}
use Rattle.rows.proofs.Fits.{fits_at}

-- three cases of two numbers
pub compared : {X : Type 0} (a b : ℕ) → (a < b → X) → (a ≡ b → X) → (b < a → X) → X
compared a b f g h =
    by_test (ltb a b) (λ e. f (ltb-true a b e)) (λ e.
    by_test (eqb a b) (λ d. g (eqb-true a b d)) (λ d.
    let n : a ≡ b → ⊥ = eqb-false a b d in
    let m : b ≤ a = ltb-false a b e in
    h (above n m)))
  where
    above : {x y : ℕ} → (x ≡ y → ⊥) → y ≤ x → y < x
    above {x} {y} n m = by_test (ltb y x) (λ e. ltb-true y x e) (λ e. let k : x ≤ y = ltb-false y x e in absurd (n
        (omega arith)))

-- one row comes before another exactly when its key is lower
pub before_key : (a b : Row) → a.terminal ≤ 65535 → b.terminal ≤ 65535 → before a b ≡ ltb (key a) (key b)
unfolding before
before_key a b h k = compared a.from b.from
    (λ (l : a.from < b.from).
    let m : key a < key b = omega arith in simp (lt-ltb _ _ l, lt-ltb _ _ m))
    (λ (e : a.from ≡ b.from).
    let n : b.from ≤ a.from = omega arith in
    compared a.terminal b.terminal
    (λ (l : a.terminal < b.terminal).
    let m : key a < key b = omega arith in simp (le-ltb _ _ n, eq-eqb _ _ e, lt-ltb _ _ l, lt-ltb _ _ m))
    (λ (d : a.terminal ≡ b.terminal).
    let l : b.terminal ≤ a.terminal = omega arith in
    let m : key b ≤ key a = omega arith in simp (le-ltb _ _ n, eq-eqb _ _ e, le-ltb _ _ l, le-ltb _ _ m))
    (λ (g : b.terminal < a.terminal).
    let l : b.terminal ≤ a.terminal = omega arith in
    let m : key b ≤ key a = omega arith in simp (le-ltb _ _ n, eq-eqb _ _ e, le-ltb _ _ l, le-ltb _ _ m)))
    (λ (g : b.from < a.from).
    let n : b.from ≤ a.from = omega arith in
    let d : a.from ≡ b.from → ⊥ = λ e. omega arith in
    let m : key b ≤ key a = omega arith in simp (le-ltb _ _ n, ne_eqb _ _ d, le-ltb _ _ m))

module _ (ns : List ℤ) (i : ℕ) where
  pair : i * 4 + 7 < length ns → rest ns i ≡ row_at ns i ∷ row_at ns (i + 1) ∷ rest ns (i + 2)
  pair h =
      let e : i + 1 + 1 ≡ i + 2 = omega arith in
      rest_cons ns i (omega arith)
      ∙ ap (λ (rs : List Row). row_at ns i ∷ rs) (rest_cons ns (i + 1) (omega arith) ∙ rw e)

  rising_cons : i * 4 + 7 < length ns
      → rising (rest ns i) ≡ (before (row_at ns i) (row_at ns (i + 1)) && rising (rest ns (i + 1)))
  unfolding rising
  rising_cons h =
      let e : i + 1 + 1 ≡ i + 2 = omega arith in
      let r : rest ns (i + 1) ≡ row_at ns (i + 1) ∷ rest ns (i + 2) = rest_cons ns (i + 1) (omega arith) ∙ rw e in
      ap rising (pair h) ∙ ap (λ (rs : List Row). before (row_at ns i) (row_at ns (i + 1)) && rising rs) (sym r)

  module _ (fits : every row_fits (rows_in ns) ≡ true) (h : i * 4 + 7 < length ns) where
    pub rising_key : rising (rest ns i) ≡ (ltb (key (row_at ns i)) (key (row_at ns (i + 1))) && rising (rest ns
        (i + 1)))
    rising_key =
        rising_cons h
        ∙ ap (λ (t : Bool). t && rising (rest ns (i + 1))) (before_key (row_at ns i) (row_at ns (i + 1))
        (fits_at ns fits i (omega arith)).terminal (fits_at ns fits (i + 1) (omega arith)).terminal)

    -- a row below the next, and one that is not
    pub rising_next : key (row_at ns i) < key (row_at ns (i + 1)) → rising (rest ns i) ≡ rising (rest ns (i + 1))
    rising_next l = rising_key ∙ ap (λ (t : Bool). t && rising (rest ns (i + 1))) (lt-ltb _ _ l)

    pub rising_fails : key (row_at ns (i + 1)) ≤ key (row_at ns i) → rising (rest ns i) ≡ false
    rising_fails l = rising_key ∙ ap (λ (t : Bool). t && rising (rest ns (i + 1))) (le-ltb _ _ l)

  -- the last row, or none
  pub rising_end : length ns < i * 4 + 8 → rising (rest ns i) ≡ true
  unfolding rising
  rising_end h = by_place ns i
      (λ l. ap rising (rest_cons ns i l ∙ ap (λ (rs : List Row). row_at ns i ∷ rs) (rest_end ns (i + 1) (omega arith))))
      (λ l. ap rising (rest_end ns i l))
