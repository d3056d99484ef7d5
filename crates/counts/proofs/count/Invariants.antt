-- The array holds, once row i and those after it are counted, how many of them lead into each state.
use Rattle.paper.specs.Checks.{rows_into}
use Rattle.rows.specs.Places.{rest}
use Rattle.counts.specs.Arrays.{Holds}
use Rattle.counts.proofs.count.Given as goal

abbrev pub invariant-loop-i : goal.invariant-loop-i
invariant-loop-i l = Holds (rows_into (rest l.few.rows.numbers.now l.i)) l.counts
