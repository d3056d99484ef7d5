-- The test of two productions says whether they are equal. Assumes nothing.
use mathlib.Core.Path.{◌≡◌, refl, ap}
use mathlib.Core.Bool.{true, false≢true}
use mathlib.Core.Option.{Option, none, some}
use Prim.Native.Nat.{ℕ}
use borrow.Author.Tests.{eq-eqb, eqb-true}
use Rattle.paper.specs.Checks.{same_production}

pub same_production_eq : (x y : Option ℕ) → same_production x y ≡ true → x ≡ y
unfolding same_production
same_production_eq none none e = refl
same_production_eq none (some b) e = absurd (false≢true e)
same_production_eq (some a) none e = absurd (false≢true e)
same_production_eq (some a) (some b) e = ap some (eqb-true a b e)

pub same_production_refl : (x : Option ℕ) → same_production x x ≡ true
unfolding same_production
same_production_refl none = refl
same_production_refl (some a) = eq-eqb a a refl
