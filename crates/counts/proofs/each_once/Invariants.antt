-- The states above i have one row each.
use mathlib.Core.Path.{◌≡◌}
use Prim.Native.Nat.{◌/◌}
use lib.ListN.{length}
use Rattle.paper.specs.Rows.{rows_in}
use Rattle.paper.specs.Checks.{each_once}
use Rattle.counts.proofs.each_once.Given as goal

abbrev pub invariant-loop-i : goal.invariant-loop-i
invariant-loop-i l =
    let ns = l.rows.numbers.now in
    each_once (rows_in ns) (length ns / 4) ≡ each_once (rows_in ns) l.i
