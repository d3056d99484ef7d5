-- An array over the states that holds what a function says of each: made clear, and one state set.
-- Assumes nothing.
use mathlib.Core.Path.{◌≡◌, sym, ◌∙◌}
use mathlib.Core.List.{List}
use Prim.Native.Nat.{ℕ, ◌+◌, ◌*◌, ◌<◌, ◌≤◌}
use native.Mathlib.Omega.{arith}
use borrow.Author.Tests.{eqb-true, eqb-false}
use lib.Dec.{eqb}
use lib.ListN.{length, get_or, set, replicate, length-set, length-replicate, get_or-replicate}
use lib.Seq.{get_or-set_same, get_or-set_other}
use lib.IntN.{ℤ}
use Rattle.rows.specs.Places.{row_at}
use Rattle.rows.specs.Passed.{Passed}
use Rattle.rows.proofs.Rest.{by_test}
use Rattle.rows.proofs.Fits.{Fit, fits_at}
use Rattle.counts.specs.Arrays.{Fitting, Holds, Clear}

pub clear : Clear (replicate 1024 0)
clear = record { sized = length-replicate {A = ℕ} 1024 0; held = λ s h. get_or-replicate {A = ℕ} 1024 s 0 0 h }

-- two numbers are equal or not
pub by_equal : {X : Type 0} (a b : ℕ) → (a ≡ b → X) → ((a ≡ b → ⊥) → X) → X
by_equal a b f g = by_test (eqb a b) (λ e. f (eqb-true a b e)) (λ e. g (eqb-false a b e))

-- what is held once state t holds v: what was held, but for t
pub holds_set : {f g : ℕ → ℕ} {xs : List ℕ} (t v : ℕ) → Holds f xs → t < 1024 → g t ≡ v
    → ((s : ℕ) → (t ≡ s → ⊥) → g s ≡ f s) → Holds g (set xs t v)
holds_set {f} {g} {xs} t v h l e k = record { sized = length-set xs t v ∙ h.sized; held = held }
  where
    held : (s : ℕ) → s < 1024 → get_or (set xs t v) s 0 ≡ g s
    held s m = by_equal t s
        (λ (q : t ≡ s). rw (← q) (get_or-set_same xs t v 0 (omega (arith, h.sized)) ∙ sym e))
        (λ (q : t ≡ s → ⊥). get_or-set_other xs t s v 0 (λ (d : s ≡ t). q (sym d)) ∙ h.held s m ∙ sym (k s q))

-- what is held is held by any function that says the same
pub holds_as : {f g : ℕ → ℕ} {xs : List ℕ} → ((s : ℕ) → g s ≡ f s) → Holds f xs → Holds g xs
holds_as e h = record { sized = h.sized; held = λ s m. h.held s m ∙ sym (e s) }

-- a row of rows within their bounds
pub bound : {ns : List ℤ} → Fitting ns → (i : ℕ) → i * 4 + 3 < length ns → Fit (row_at ns i)
bound {ns} b i h = fits_at ns b.fits i (omega arith)

-- rows that passed 1 to 3
pub fitting : {ns : List ℤ} → Passed ns → length ns ≤ 16384 → Fitting ns
fitting h l = record { fits = h.fits; few = l }
