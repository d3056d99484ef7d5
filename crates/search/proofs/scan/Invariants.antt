use Prim.Native.Nat.{◌≤◌}
use Rattle.search.specs.Search.{Below}
use Rattle.search.proofs.scan.Given as goal

abbrev pub invariant-loop-i : goal.invariant-loop-i
invariant-loop-i l = (l.i ≤ l.end) × Below l.rows.numbers.now l.x l.i
