-- Where a state's rows begin and end in a row slice, and the rows of a state from a place on.
-- Assumes, where it says so, rows that passed 1 to 3.
use mathlib.Core.Path.{◌≡◌, refl, sym, ap, ◌∙◌}
use mathlib.Core.Bool.{Bool, true, false, cond, false≢true}
use mathlib.Core.List.{List, [], ◌∷◌}
use Prim.Native.Nat.{ℕ, zero, suc, ◌+◌, ◌-◌, ◌*◌, ◌/◌, ◌<◌, ◌≤◌}
use native.Mathlib.Omega.{arith}
use native.Mathlib.Numerals.{add-one}
use borrow.Author.Tests.{eq-eqb, ne_eqb, eqb-true, lt-ltb, le-ltb, ltb-true}
use lib.Dec.{eqb, ltb}
use lib.ListN.{length, set, get_or, replicate, length-replicate, get_or-replicate}
use lib.IntN.{ℤ}
use Rattle.paper.specs.Rows.{Row, rows_in}
use Rattle.paper.specs.Shrink.{rows_of}
use Rattle.rows.specs.Places.{row_at, rest}
use Rattle.rows.specs.Passed.{Passed}
use Rattle.rows.proofs.Rest.{rest_cons, rest_end, both, by_test}
use Rattle.rows.proofs.Keys.{compared}
use Rattle.rows.proofs.Passing.{keys_rise, fit_at}
use Rattle.counts.specs.Arrays.{Holds}
use Rattle.counts.proofs.Arrays.{by_equal, holds_set}
use Rattle.shrink_alike.specs.Index.{from_first, leaves, Begun}

-- an array of one number
pub filled : (v : ℕ) → Holds (λ s. v) (replicate 1024 v)
filled v = record {
  sized = length-replicate {A = ℕ} 1024 v;
  held = λ s h. get_or-replicate {A = ℕ} 1024 s v 0 h;
}

module _ (ns : List ℤ) (i s : ℕ) where
  from_cons : i * 4 + 3 < length ns
      → from_first i (rest ns i) s ≡ cond (eqb (row_at ns i).from s) i (from_first (i + 1) (rest ns (i + 1)) s)
  unfolding from_first
  from_cons h =
      ap (λ (rs : List Row). from_first i rs s) (rest_cons ns i h)
      ∙ ap (λ (m : ℕ). cond (eqb (row_at ns i).from s) i (from_first m (rest ns (i + 1)) s)) (sym (add-one i))

  -- row i leaves s
  from_here : i * 4 + 3 < length ns → (row_at ns i).from ≡ s → from_first i (rest ns i) s ≡ i
  from_here h e =
      from_cons h
      ∙ ap (λ (b : Bool). cond b i (from_first (i + 1) (rest ns (i + 1)) s)) (eq-eqb (row_at ns i).from s e)

  -- it does not
  from_other : i * 4 + 3 < length ns → ((row_at ns i).from ≡ s → ⊥)
      → from_first i (rest ns i) s ≡ from_first (i + 1) (rest ns (i + 1)) s
  from_other h e =
      from_cons h
      ∙ ap (λ (b : Bool). cond b i (from_first (i + 1) (rest ns (i + 1)) s)) (ne_eqb (row_at ns i).from s e)

  pub from_end : length ns < i * 4 + 4 → from_first i (rest ns i) s ≡ i
  unfolding from_first
  from_end h = ap (λ (rs : List Row). from_first i rs s) (rest_end ns i h)

  rows_cons : i * 4 + 3 < length ns → rows_of (rest ns i) s
      ≡ cond (eqb (row_at ns i).from s) (((row_at ns i).terminal, (row_at ns i).to) ∷ rows_of (rest ns (i + 1)) s)
      (rows_of (rest ns (i + 1)) s)
  unfolding rows_of
  rows_cons h = ap (λ (rs : List Row). rows_of rs s) (rest_cons ns i h)

  rows_here : i * 4 + 3 < length ns → (row_at ns i).from ≡ s
      → rows_of (rest ns i) s ≡ ((row_at ns i).terminal, (row_at ns i).to) ∷ rows_of (rest ns (i + 1)) s
  rows_here h e = rows_cons h ∙ rw (eq-eqb (row_at ns i).from s e)

  rows_other : i * 4 + 3 < length ns → ((row_at ns i).from ≡ s → ⊥)
      → rows_of (rest ns i) s ≡ rows_of (rest ns (i + 1)) s
  rows_other h e = rows_cons h ∙ rw (ne_eqb (row_at ns i).from s e)

  rows_end : length ns < i * 4 + 4 → rows_of (rest ns i) s ≡ []
  unfolding rows_of
  rows_end h = ap (λ (rs : List Row). rows_of rs s) (rest_end ns i h)

-- one row more, taken before those that are set: its state is set anew
pub first_row : (ns : List ℤ) (first : List ℕ) (i k f : ℕ) → i + 1 ≡ k → i * 4 + 3 < length ns
    → Holds (from_first k (rest ns k)) first → f ≡ (row_at ns i).from → f < 1024
    → Holds (from_first i (rest ns i)) (set first f i)
first_row ns first i k f e l h q b = holds_set f i h b
    (from_here ns i f l (sym q))
    (λ s d. from_other ns i s l (λ (x : (row_at ns i).from ≡ s). d (q ∙ x))
    ∙ ap (λ (m : ℕ). from_first m (rest ns m) s) e)

-- ---- a walk along the rows of a state

-- At place i: if a row of s is still to come, row i is one.
pub record Standing (ns : List ℤ) (s i : ℕ) : Type 0 where
  pub within : i ≤ length ns / 4
  pub ahead : (j : ℕ) → i ≤ j → j < length ns / 4 → (row_at ns j).from ≡ s → (row_at ns i).from ≡ s

pub leaves_yes : (ns : List ℤ) (s i : ℕ) → leaves ns s i ≡ true → (i < length ns / 4) × ((row_at ns i).from ≡ s)
leaves_yes ns s i e =
    let h = both (ltb i (length ns / 4)) (eqb (row_at ns i).from s) e in
    (ltb-true _ _ h.0, eqb-true _ _ h.1)

-- row i is there, and its state is s, is another; it is not there
pub leaves_at : (ns : List ℤ) (s i : ℕ) → i < length ns / 4 → (row_at ns i).from ≡ s → leaves ns s i ≡ true
leaves_at ns s i l q = rw (lt-ltb i (length ns / 4) l) (eq-eqb _ _ q)

pub leaves_other : (ns : List ℤ) (s i : ℕ) → ((row_at ns i).from ≡ s → ⊥) → leaves ns s i ≡ false
leaves_other ns s i d = by_test (ltb i (length ns / 4))
    (λ e. rw e (ne_eqb _ _ d))
    (λ e. rw e)

pub leaves_past : (ns : List ℤ) (s i : ℕ) → length ns / 4 ≤ i → leaves ns s i ≡ false
leaves_past ns s i l = rw (le-ltb i (length ns / 4) l)

leaves_no : (ns : List ℤ) (s i : ℕ) → leaves ns s i ≡ false → i < length ns / 4 → (row_at ns i).from ≡ s → ⊥
leaves_no ns s i e l q = false≢true (sym e ∙ leaves_at ns s i l q)

-- no row of s from i on
rows_none : (ns : List ℤ) (s d i : ℕ) → i + d ≡ length ns / 4
    → ((j : ℕ) → i ≤ j → j < length ns / 4 → (row_at ns j).from ≡ s → ⊥) → rows_of (rest ns i) s ≡ []
rows_none ns s zero i h k = rows_end ns i s (omega arith)
rows_none ns s (suc d) i h k =
    rows_other ns i s (omega arith) (k i (omega arith) (omega arith))
    ∙ rows_none ns s d (i + 1) (omega arith) (λ j a b. k j (omega arith) b)

module _ {ns : List ℤ} {s i : ℕ} (w : Standing ns s i) where
  -- where row i is none of s, its rows have ended
  pub stand_end : leaves ns s i ≡ false → rows_of (rest ns i) s ≡ []
  stand_end e = rows_none ns s (length ns / 4 - i) i (omega (arith, w.within))
      (λ j a b q. leaves_no ns s i e (omega arith) (w.ahead j a b q))

  -- where it is one, it is the first, and the walk stands at the next
  pub stand_next : Passed ns → leaves ns s i ≡ true → Standing ns s (i + 1)
  stand_next p e =
      let h = leaves_yes ns s i e in
      record {
        within = omega (arith, h.0);
        ahead = λ j a b q. compared (i + 1) j
            (λ l.
            let t = fit_at p i h.0 in
            let u = fit_at p j b in
            let v = fit_at p (i + 1) (omega arith) in
            let x = keys_rise p i (i + 1) (omega arith) (omega arith) in
            let y = keys_rise p (i + 1) j l b in
            omega (arith, h.1, t.terminal, u.terminal, v.terminal, x, y, q))
            (λ l. ap (λ (m : ℕ). (row_at ns m).from) l ∙ q)
            (λ l. absurd (omega arith));
      }

  pub stand_row : leaves ns s i ≡ true
      → rows_of (rest ns i) s ≡ ((row_at ns i).terminal, (row_at ns i).to) ∷ rows_of (rest ns (i + 1)) s
  stand_row e = let h = leaves_yes ns s i e in rows_here ns i s (omega (arith, h.0)) h.1

begins : (ns : List ℤ) (s d i : ℕ) → i + d ≡ length ns / 4
    → (from_first i (rest ns i) s ≤ length ns / 4)
    × (from_first i (rest ns i) s < length ns / 4 → (row_at ns (from_first i (rest ns i) s)).from ≡ s)
    × (rows_of (rest ns (from_first i (rest ns i) s)) s ≡ rows_of (rest ns i) s)
begins ns s zero i h =
    let e = from_end ns i s (omega arith) in
    rw e (omega arith, λ l. absurd (omega arith), refl)
begins ns s (suc d) i h = by_equal (row_at ns i).from s
    (λ (q : (row_at ns i).from ≡ s). rw (from_here ns i s (omega arith) q) (omega arith, λ l. q, refl))
    (λ (q : (row_at ns i).from ≡ s → ⊥).
    let r = begins ns s d (i + 1) (omega arith) in
    rw (from_other ns i s (omega arith) q) (r.0, r.1, r.2 ∙ sym (rows_other ns i s (omega arith) q)))

-- The rows of s, walked from where they begin.
pub record Walk (ns : List ℤ) (s i : ℕ) : Type 0 where
  pub stands : Standing ns s i
  pub whole : rows_of (rest ns i) s ≡ rows_of (rows_in ns) s

pub walk_begins : {ns : List ℤ} {first : List ℕ} → Begun ns first → (s : ℕ) → s < 1024 → Walk ns s (get_or first s 0)
walk_begins {ns} {first} b s l =
    let q : get_or first s 0 ≡ from_first 0 (rest ns 0) s = b.starts.held s l in
    let r = begins ns s (length ns / 4) 0 (omega arith) in
    rw q (record {
      stands = record { within = r.0; ahead = λ j x y z. r.1 (omega arith) };
      whole = r.2;
    })
