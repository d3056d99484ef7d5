use mathlib.Core.Path.{◌≡◌, refl}
use Prim.Native.Nat.{ℕ, zero, suc}
use lib.Dec.{eqb, eqb-suc-zero}
use Rattle.paper.specs.declared.Mode.TheVariants.{Archive}
use Rattle.merging.specs.Marks.{compared}
use Rattle.rows.specs.Places.{uncoded}
use Rattle.shrink_alike.proofs.same.compared.Goals as goal

in_archive : (p : ℕ) → eqb p 0 ≡ compared Archive (uncoded p)
unfolding compared
in_archive zero = refl
in_archive (suc q) = eqb-suc-zero q

pub returns-in-Intake : goal.returns-in-Intake
unfolding compared
returns-in-Intake c = rw c.in-Intake.is

pub returns-in-Archive : goal.returns-in-Archive
returns-in-Archive c = rw c.in-Archive.is (in_archive c.args.p)
