use mathlib.Core.Path.{◌≡◌}
use Rattle.paper.specs.Rows.{Row, rows_in}
use Rattle.paper.specs.Checks.{any}
use lib.Dec.{leb}
use mathlib.Core.Bool.{Bool}
use Rattle.rows.specs.Places.{rest}
use Rattle.row_checks.proofs.shape.Given as goal

abbrev falls : Row → Bool
falls r = leb r.to r.from

abbrev pub invariant-loop-i : goal.invariant-loop-i
invariant-loop-i l = any falls (rows_in l.rows) ≡ any falls (rest l.rows l.i)
