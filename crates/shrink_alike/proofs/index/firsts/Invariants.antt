use Rattle.rows.specs.Places.{rest}
use Rattle.counts.specs.Arrays.{Holds}
use Rattle.shrink_alike.specs.Index.{from_first}
use Rattle.shrink_alike.proofs.index.firsts.Given as goal

abbrev pub invariant-loop-i : goal.invariant-loop-i
invariant-loop-i l = Holds (from_first l.i (rest l.few.rows.numbers.now l.i)) l.first
