-- `row_checks::in_one_pass` meets its contract. The loop's invariant: the rows before i fit, and Risen. Assumes nothing.
use mathlib.Core.Path.{◌≡◌}
use Rattle.paper.specs.Rows.{rows_in}
use Rattle.paper.specs.Checks.{every, row_fits}
use Rattle.rows.specs.Places.{rest}
use Rattle.row_checks.proofs.OnePass as pass
use Rattle.row_checks.proofs.in_one_pass.Given as goal

abbrev pub invariant-loop-i : goal.invariant-loop-i
invariant-loop-i l =
    (every row_fits (rows_in l.rows) ≡ every row_fits (rest l.rows l.i))
    × (l.above ≡ pass.above l.rows l.i)
    × pass.Risen l.rows l.falls l.i
