-- An i32 as the machine reads it back, `to_z w32 (of_z w32 x)`: what its tests and casts say of the number.
-- Assumes nothing.
use mathlib.Core.Path.{◌≡◌, refl, sym, ◌∙◌}
use mathlib.Core.Bool.{true, false, true≢false}
use Prim.Native.Nat.{ℕ, zero, suc, ◌<◌, ◌≤◌, ◌^◌}
use native.Mathlib.Omega.{arith}
use borrow.Author.Tests.{ltb-true, lt-leb}
use lib.Dec.{T}
use lib.IntN.{ℤ, pos, negsuc, nat_abs}
use lib.Signed.{lt_z, le_z, non_neg, mag}
use mir.Syntax.{w32, w64}
use mir.Val.{SFits, Fits, to_z, of_z}
use mir.Facts.{to_z-of_z}
use Rattle.paper.specs.Rows.{natural, accepting}
use Rattle.paper.specs.Checks.{production_fits}
use Rattle.rows.specs.Places.{Reads, code}

castable : (x : ℤ) → SFits w32 x → lt_z x (pos 0) ≡ false → T (non_neg x) × Fits w64 (nat_abs x)
castable (pos n) h e = (tt, record { fits = omega (arith, h.sfits) })
castable (negsuc n) h e = absurd (true≢false e)

bounded : (x : ℤ) → SFits w32 x → nat_abs x ≤ 2147483648
bounded (pos n) h = omega (arith, h.sfits)
bounded (negsuc n) h = omega (arith, h.sfits)

as_below : (x : ℤ) → lt_z x (pos 0) ≡ true → Reads (natural x) 65536
as_below (pos n) e = absurd (omega (arith, ltb-true n 0 e))
as_below (negsuc n) e = record { is = refl; small = omega arith }

module _ (x : ℤ) (fits : SFits w32 x) where
  -- what the cast `x as usize` asks after the test `x < 0`, and what it gives
  pub cast : lt_z (to_z w32 (of_z w32 x)) (pos 0) ≡ false
      → T (non_neg (to_z w32 (of_z w32 x))) × Fits w64 (nat_abs (to_z w32 (of_z w32 x)))
  cast = rw (to_z-of_z fits) (castable x fits)

  pub is_below : lt_z (to_z w32 (of_z w32 x)) (pos 0) ≡ true → Reads (natural x) 65536
  is_below = rw (to_z-of_z fits) (as_below x)

-- the test `x == -1` is one of bits
pub is_none : (x : ℤ) → SFits w32 x → of_z w32 x ≡ 4294967295 → Reads (code (accepting x)) 0
is_none (pos n) h e = absurd (omega (arith, h.sfits))
is_none (negsuc zero) h e = record { is = refl; small = omega arith }
is_none (negsuc (suc n)) h e = absurd (omega (arith, h.sfits))

-- the two tests of a production's bounds
above_none : (z : ℤ) → le_z (negsuc 0) z ≡ true → le_z z (pos 65535) ≡ production_fits (accepting z)
unfolding production_fits
above_none (pos n) e = refl
above_none (negsuc zero) e = refl
above_none (negsuc (suc n)) e = absurd (true≢false (sym e ∙ lt-leb (suc n) 0 (omega arith)))

below_none : (z : ℤ) → le_z (negsuc 0) z ≡ false → le_z (negsuc 0) z ≡ production_fits (accepting z)
unfolding production_fits
below_none (pos n) e = absurd (true≢false e)
below_none (negsuc zero) e = absurd (true≢false e)
below_none (negsuc (suc n)) e = e

module _ (z : ℤ) (fits : SFits w32 z) where
  pub fits_above : le_z (negsuc 0) (to_z w32 (of_z w32 z)) ≡ true
      → le_z (to_z w32 (of_z w32 z)) (pos 65535) ≡ production_fits (accepting z)
  fits_above = rw (to_z-of_z fits) (above_none z)

  pub fits_below : le_z (negsuc 0) (to_z w32 (of_z w32 z)) ≡ false
      → le_z (negsuc 0) (to_z w32 (of_z w32 z)) ≡ production_fits (accepting z)
  fits_below = rw (to_z-of_z fits) (below_none z)

-- a parameter that was passed on
pub same : (x : ℤ) → SFits w32 x → to_z w32 (of_z w32 x) ≡ x
same x f = to_z-of_z {w = w32} f

-- an element that was read, as a callee is passed it
pub back : (z : ℤ) → mag z < 2 ^ 31 → to_z w32 (of_z w32 z) ≡ z
back z h = to_z-of_z {w = w32} (record { sfits = h })

-- a production within its bounds, as a callee is passed it
pub kept : (z : ℤ) → code (accepting z) ≤ 65536 → to_z w32 (of_z w32 z) ≡ z
kept (pos n) h = to_z-of_z {w = w32} {z = pos n} (record { sfits = omega arith })
kept (negsuc zero) h = to_z-of_z {w = w32} {z = negsuc zero} (record { sfits = omega arith })
kept (negsuc (suc n)) h = absurd (omega arith)

-- a number that is within its bounds is not below 0: what its cast asks, and what it gives
not_below : (z : ℤ) → natural z ≤ 65535 → SFits w32 z → T (non_neg z) × Fits w64 (nat_abs z)
not_below (pos n) h f = (tt, record { fits = omega (arith, f.sfits) })
not_below (negsuc n) h f = absurd (omega arith)

cast_of : (z : ℤ) → natural z ≤ 65535 → nat_abs z ≡ natural z
cast_of (pos n) h = refl
cast_of (negsuc n) h = absurd (omega arith)

pub plain_cast : (z : ℤ) → natural z ≤ 65535 → mag z < 2 ^ 31
    → T (non_neg (to_z w32 (of_z w32 z))) × Fits w64 (nat_abs (to_z w32 (of_z w32 z)))
plain_cast z h m = rw (back z m) (not_below z h (record { sfits = m }))

pub plain_read : (z : ℤ) → natural z ≤ 65535 → mag z < 2 ^ 31 → nat_abs (to_z w32 (of_z w32 z)) ≡ natural z
plain_read z h m = rw (back z m) (cast_of z h)

-- numbers as they are stored
pub stored : (n : ℕ) (z : ℤ) → n ≤ 65535 → z ≡ pos n → to_z w32 (of_z w32 z) ≡ pos n
stored n z h e = rw e (to_z-of_z {w = w32} {z = pos n} (record { sfits = omega arith }))
