-- The array holds, once row i and those after it are marked, the first of them into each state. Assumes nothing.
use Rattle.rows.specs.Places.{rest}
use Rattle.ruled.specs.Into.{into_from}
use Rattle.counts.specs.Arrays.{Holds}
use Rattle.ruled.proofs.into.mark.Given as goal

abbrev pub invariant-loop-i : goal.invariant-loop-i
invariant-loop-i l = Holds (into_from l.i (rest l.few.rows.numbers.now l.i)) l.into
