-- The rows from a place on: what a loop over a row slice has still to do.
-- Assumes nothing.
use mathlib.Core.Path.{◌≡◌, refl, ap, sym, ◌∙◌}
use mathlib.Core.Bool.{Bool, true, false, ◌&&◌, ◌||◌, false≢true}
use mathlib.Core.List.{List, [], ◌∷◌}
use Prim.Native.Nat.{ℕ, zero, suc, ◌+◌, ◌*◌, ◌/◌, ◌<◌, ◌≤◌}
use native.Mathlib.Omega.{arith}
use native.Mathlib.Numerals.{add-one}
use borrow.Author.Tests.{ltb-true, ltb-false}
use lib.Dec.{ltb}
use lib.ListN.{length, get_or, drop, length-drop}
use lib.Seq.{drop-cons}
use lib.IntN.{ℤ, pos}
use Rattle.paper.specs.Rows.{Row, rows_in}
use Rattle.paper.specs.Checks.{every, any}
use Rattle.rows.specs.Places.{row_at, rest}

-- a case for each outcome of a test
pub by_test : {X : Type 0} (b : Bool) → (b ≡ true → X) → (b ≡ false → X) → X
by_test true f g = f refl
by_test false f g = g refl

-- both sides of a conjunction that holds
pub both : (a b : Bool) → (a && b) ≡ true → (a ≡ true) × (b ≡ true)
both true b e = (refl, e)
both false b e = absurd (false≢true e)

-- row i is there, or the rows have ended
pub by_place : {X : Type 0} (ns : List ℤ) (i : ℕ) → (i * 4 + 3 < length ns → X) → (length ns < i * 4 + 4 → X) → X
by_place ns i f g = by_test (ltb (i * 4 + 3) (length ns))
    (λ e. f (ltb-true _ _ e))
    (λ e. g (past (ltb-false (i * 4 + 3) (length ns) e)))
  where
    past : length ns ≤ i * 4 + 3 → length ns < i * 4 + 4
    past h = omega arith

next : (ns : List ℤ) (k m : ℕ) → k < length ns → suc k ≡ m → drop k ns ≡ get_or ns k (pos 0) ∷ drop m ns
next ns k m h e = drop-cons ns k (pos 0) h ∙ rw e

-- the row at i, and the rows after it
pub rest_cons : (ns : List ℤ) (i : ℕ) → i * 4 + 3 < length ns → rest ns i ≡ row_at ns i ∷ rest ns (i + 1)
rest_cons ns i h =
    let e : (i + 1) * 4 ≡ i * 4 + 4 = omega arith in
    rw (
      e,
      next ns (i * 4) (i * 4 + 1) (omega arith) (omega arith),
      next ns (i * 4 + 1) (i * 4 + 2) (omega arith) (omega arith),
      next ns (i * 4 + 2) (i * 4 + 3) (omega arith) (omega arith),
      next ns (i * 4 + 3) (i * 4 + 4) (omega arith) (omega arith),
    )

few : (ns : List ℤ) → length ns < 4 → rows_in ns ≡ []
few [] h = refl
few (a ∷ []) h = refl
few (a ∷ b ∷ []) h = refl
few (a ∷ b ∷ c ∷ []) h = refl
few (a ∷ b ∷ c ∷ d ∷ ns) h = absurd (omega arith)

-- fewer than four numbers are no row
pub rest_end : (ns : List ℤ) (i : ℕ) → length ns < i * 4 + 4 → rest ns i ≡ []
rest_end ns i h = few (drop (i * 4) ns) (omega (arith, length-drop (i * 4) ns))

pub length_rows : (ns : List ℤ) → length (rows_in ns) ≡ length ns / 4
length_rows [] = refl
length_rows (a ∷ []) = refl
length_rows (a ∷ b ∷ []) = refl
length_rows (a ∷ b ∷ c ∷ []) = refl
length_rows (a ∷ b ∷ c ∷ d ∷ ns) = omega (arith, length_rows ns)

module _ (f : Row → Bool) (ns : List ℤ) (i : ℕ) where
  -- a test of every row, from i on
  pub every_cons : i * 4 + 3 < length ns → every f (rest ns i) ≡ (f (row_at ns i) && every f (rest ns (i + 1)))
  unfolding every
  every_cons h = ap (every f) (rest_cons ns i h)

  pub every_next : i * 4 + 3 < length ns → f (row_at ns i) ≡ true → every f (rest ns i) ≡ every f (rest ns (i + 1))
  unfolding every
  every_next h e = ap (every f) (rest_cons ns i h) ∙ ap (λ (b : Bool). b && every f (rest ns (i + 1))) e

  pub every_fails : i * 4 + 3 < length ns → f (row_at ns i) ≡ false → every f (rest ns i) ≡ false
  unfolding every
  every_fails h e = ap (every f) (rest_cons ns i h) ∙ ap (λ (b : Bool). b && every f (rest ns (i + 1))) e

  pub every_end : length ns < i * 4 + 4 → every f (rest ns i) ≡ true
  unfolding every
  every_end h = ap (every f) (rest_end ns i h)

  -- a test for any row, from i on
  pub any_next : i * 4 + 3 < length ns → f (row_at ns i) ≡ false → any f (rest ns i) ≡ any f (rest ns (i + 1))
  unfolding any
  any_next h e = ap (any f) (rest_cons ns i h) ∙ ap (λ (b : Bool). b || any f (rest ns (i + 1))) e

  pub any_here : i * 4 + 3 < length ns → f (row_at ns i) ≡ true → any f (rest ns i) ≡ true
  unfolding any
  any_here h e = ap (any f) (rest_cons ns i h) ∙ ap (λ (b : Bool). b || any f (rest ns (i + 1))) e

  pub any_end : length ns < i * 4 + 4 → any f (rest ns i) ≡ false
  unfolding any
  any_end h = ap (any f) (rest_end ns i h)

-- what holds of every row holds of the rows from a place on, and of the row at a place
every_from : (f : Row → Bool) (ns : List ℤ) → every f (rows_in ns) ≡ true → (i : ℕ) → every f (rest ns i) ≡ true
every_from f ns h zero = h
every_from f ns h (suc i) = by_place ns i
    (λ l. rw add-one at (there l (every_from f ns h i)))
    (λ l. every_end f ns (suc i) (omega arith))
  where
    there : i * 4 + 3 < length ns → every f (rest ns i) ≡ true → every f (rest ns (i + 1)) ≡ true
    there l e = (both (f (row_at ns i)) (every f (rest ns (i + 1))) (sym (every_cons f ns i l) ∙ e)).1

pub every_at : (f : Row → Bool) (ns : List ℤ) (i : ℕ) → every f (rows_in ns) ≡ true → i * 4 + 3 < length ns
    → f (row_at ns i) ≡ true
every_at f ns i h l = (both (f (row_at ns i)) (every f (rest ns (i + 1))) (sym (every_cons f ns i l)
    ∙ every_from f ns h i)).0
