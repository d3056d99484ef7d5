use mathlib.Core.Path.{◌≡◌, refl}
use Prim.Native.Nat.{ℕ, zero, suc}
use Rattle.paper.specs.declared.Mode.TheVariants.{Intake}
use Rattle.handed.specs.Handed.{mode_of}
use Rattle.handed.proofs.mode_of.Goals as goal

-- any number but 0
not_zero : (n : ℕ) → (n ≡ 0 → ⊥) → Intake ≡ mode_of n
not_zero zero h = absurd (h refl)
not_zero (suc n) h = refl

pub returns-else-mode-eq0 : goal.returns-else-mode-eq0
returns-else-mode-eq0 c = not_zero c.args.mode c.if-mode-eq0.false
