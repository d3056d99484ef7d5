-- Rows that passed 2 and 3: each is within its bounds, and their keys rise.
-- Assumes nothing.
use mathlib.Core.Path.{◌≡◌, sym, ◌∙◌}
use mathlib.Core.Bool.{true}
use mathlib.Core.List.{List}
use Prim.Native.Nat.{ℕ, zero, suc, ◌+◌, ◌-◌, ◌*◌, ◌/◌, ◌<◌}
use native.Mathlib.Omega.{arith}
use native.Mathlib.Numerals.{add-one}
use borrow.Author.Tests.{ltb-true}
use lib.Dec.{ltb}
use lib.ListN.{length}
use lib.IntN.{ℤ}
use Rattle.paper.specs.Checks.{rising}
use Rattle.rows.specs.Places.{row_at, rest, key}
use Rattle.rows.specs.Passed.{Passed}
use Rattle.rows.proofs.Rest.{both, by_place}
use Rattle.rows.proofs.Fits.{Fit, fits_at}
use Rattle.rows.proofs.Keys.{rising_key, rising_end}

-- a row of a slice that passed is within its bounds
pub fit_at : {ns : List ℤ} (p : Passed ns) (i : ℕ) → i < length ns / 4 → Fit (row_at ns i)
fit_at {ns} p i l = fits_at ns p.fits i l

module _ {ns : List ℤ} (p : Passed ns) where
  rises_from : (i : ℕ) → rising (rest ns i) ≡ true
  rises_from zero = p.rises
  rises_from (suc i) = by_place ns (suc i) (λ l. there l (rises_from i)) (λ l. rising_end ns (suc i) (omega arith))
    where
      there : suc i * 4 + 3 < length ns → rising (rest ns i) ≡ true → rising (rest ns (suc i)) ≡ true
      there l e =
          let t = ltb (key (row_at ns i)) (key (row_at ns (i + 1))) in
          rw add-one at (both t (rising (rest ns (i + 1))) (sym (rising_key ns i p.fits (omega arith)) ∙ e)).1

  key_next : (i : ℕ) → i * 4 + 7 < length ns → key (row_at ns i) < key (row_at ns (i + 1))
  key_next i l =
      ltb-true _ _ (both _ (rising (rest ns (i + 1))) (sym (rising_key ns i p.fits l) ∙ rises_from i)).0

  keys_on : (d i : ℕ) → (i + suc d) * 4 + 3 < length ns → key (row_at ns i) < key (row_at ns (i + suc d))
  keys_on zero i l =
      let e : i + suc zero ≡ i + 1 = omega arith in rw e (key_next i (omega arith))
  keys_on (suc d) i l =
      let e : i + suc (suc d) ≡ i + suc d + 1 = omega arith in
      let a = keys_on d i (omega arith) in
      let b = key_next (i + suc d) (omega arith) in
      rw e (omega (arith, a, b))

  -- a lower row has a lower key
  pub keys_rise : (i j : ℕ) → i < j → j < length ns / 4 → key (row_at ns i) < key (row_at ns j)
  keys_rise i j h l =
      let e : i + suc (j - i - 1) ≡ j = omega arith in
      rw e at (keys_on (j - i - 1) i (omega arith))
