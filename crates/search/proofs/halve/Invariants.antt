use Prim.Native.Nat.{◌-◌}
use Rattle.search.specs.Search.{Bracket}
use Rattle.search.proofs.halve.Given as goal

abbrev pub invariant-loop-low : goal.invariant-loop-low
invariant-loop-low l = Bracket l.rows.numbers.now l.x l.low l.high

abbrev pub decreases-loop-low : goal.decreases-loop-low
decreases-loop-low l = l.high - l.low
