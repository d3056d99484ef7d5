-- Minus a refusal's number, as the machine negates it. Assumes nothing.
use mathlib.Core.Path.{◌≡◌, refl, ap, ◌∙◌}
use Prim.Native.Nat.{ℕ, zero, suc, ◌-◌, ◌≤◌}
use native.Mathlib.Omega.{arith}
use borrow.Author.Tests.{lt-ltb}
use lib.IntN.{ℤ, pos, negsuc, ◌-ℤ◌}
use mir.Syntax.{w32}
use mir.Val.{SFits, to_z, of_z}
use mir.Facts.{to_z-of_z, to_z_pos}
use Rattle.paper.specs.declared.Refusal.{Refusal}
use Rattle.paper.specs.declared.Refusal.TheVariants as refusal
use Rattle.paper.specs.Answers.{number}
use Rattle.paper.specs.Batch.{minus}

-- the last number is 14
pub at_most_14 : (f : Refusal) → number f ≤ 14
at_most_14 refusal.Length = omega arith
at_most_14 refusal.Range = omega arith
at_most_14 refusal.Order = omega arith
at_most_14 refusal.Shape = omega arith
at_most_14 refusal.Loose = omega arith
at_most_14 refusal.Split = omega arith
at_most_14 refusal.Tree = omega arith
at_most_14 (refusal.Clash p q) = omega arith
at_most_14 refusal.Mismatch = omega arith
at_most_14 refusal.Short = omega arith
at_most_14 refusal.None = omega arith
at_most_14 refusal.Root = omega arith
at_most_14 (refusal.Text at) = omega arith
at_most_14 refusal.Full = omega arith

negated : (n : ℕ) → pos 0 -ℤ pos n ≡ minus n
unfolding minus
negated zero = refl
negated (suc n) = rw (lt-ltb 0 (suc n) (omega arith)) (let d : suc n - 1 ≡ n = omega arith in ap negsuc d)

minus_fits : (n : ℕ) → n ≤ 14 → SFits w32 (minus n)
unfolding minus
minus_fits zero h = record { sfits = omega arith }
minus_fits (suc n) h = record { sfits = omega (arith, h) }

module _ (n : ℕ) (h : n ≤ 14) where
  is_minus : pos 0 -ℤ to_z w32 n ≡ minus n
  is_minus = ap (λ (z : ℤ). pos 0 -ℤ z) (to_z_pos w32 {n = n} (omega (arith, h))) ∙ negated n

  pub negation_fits : SFits w32 (pos 0 -ℤ to_z w32 n)
  negation_fits = rw is_minus (minus_fits n h)

  pub negation : to_z w32 (of_z w32 (pos 0 -ℤ to_z w32 n)) ≡ minus n
  negation = to_z-of_z {w = w32} negation_fits ∙ is_minus
