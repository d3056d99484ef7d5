-- A test for any row, by the place of a row that passes it.
-- Assumes nothing.
use mathlib.Core.Path.{◌≡◌, refl, sym, ap, ◌∙◌}
use mathlib.Core.Bool.{Bool, true, false, ◌||◌, false≢true}
use mathlib.Core.List.{List}
use Prim.Native.Nat.{ℕ, zero, suc, ◌+◌, ◌*◌, ◌/◌, ◌<◌}
use native.Mathlib.Omega.{arith}
use lib.ListN.{length}
use lib.IntN.{ℤ}
use Rattle.std.specs.List.{list_any, range_with_len}
use Rattle.paper.specs.Rows.{Row, rows_in}
use Rattle.paper.specs.Checks.{any}
use Rattle.rows.specs.Places.{row_at, rest}
use Rattle.rows.proofs.Rest.{rest_cons, any_next, any_here, any_end, by_test}

-- Two tests that are true together are equal.
pub same_test : (a b : Bool) → (a ≡ true → b ≡ true) → (b ≡ true → a ≡ true) → a ≡ b
same_test true b f g = sym (f refl)
same_test false true f g = g refl
same_test false false f g = refl

-- A row that passes a test.
pub record Passing (f : Row → Bool) (ns : List ℤ) : Type 0 where
  pub at : ℕ
  pub there : at * 4 + 3 < length ns
  pub passes : f (row_at ns at) ≡ true

module _ (f : Row → Bool) (ns : List ℤ) where
  from : (d i : ℕ) → i + d ≡ length ns / 4 → any f (rest ns i) ≡ true → Passing f ns
  from zero i h e = absurd (false≢true (sym (any_end f ns i (omega arith)) ∙ e))
  from (suc d) i h e = by_test (f (row_at ns i))
      (λ p. record { at = i; there = omega arith; passes = p })
      (λ p. from d (i + 1) (omega arith) (sym (any_next f ns i (omega arith) p) ∙ e))

  pub any_place : any f (rows_in ns) ≡ true → Passing f ns
  any_place e = from (length ns / 4) 0 (omega arith) e

  back : (d i : ℕ) → (i + d) * 4 + 3 < length ns → f (row_at ns (i + d)) ≡ true → any f (rest ns i) ≡ true
  back zero i h p = let e : i + zero ≡ i = omega arith in any_here f ns i (omega arith) (rw e at p)
  back (suc d) i h p =
      let e : i + suc d ≡ i + 1 + d = omega arith in
      by_test (f (row_at ns i))
      (λ q. any_here f ns i (omega arith) q)
      (λ q. any_next f ns i (omega arith) q ∙ back d (i + 1) (omega arith) (rw e at p))

  pub place_any : Passing f ns → any f (rows_in ns) ≡ true
  place_any r = back r.at 0 (omega (arith, r.there)) (rw zero_add r.passes)
    where
      zero_add : 0 + r.at ≡ r.at
      zero_add = omega arith

-- the rows from i on, d of them, tested by their places
pub any_places : (f : Row → Bool) (ns : List ℤ) (d i : ℕ) → i + d ≡ length ns / 4
    → list_any (λ j. f (row_at ns j)) (range_with_len i d) ≡ any f (rest ns i)
unfolding any
any_places f ns zero i h = sym (any_end f ns i (omega arith))
any_places f ns (suc d) i h =
    ap (λ (b : Bool). f (row_at ns i) || b) (any_places f ns d (i + 1) (omega arith))
    ∙ sym (ap (any f) (rest_cons ns i (omega arith)))
