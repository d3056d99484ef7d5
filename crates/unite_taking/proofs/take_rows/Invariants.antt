use Rattle.grow.specs.Seen.{rows_of}
use Rattle.unite_taking.proofs.Ongoing.{Ongoing}
use Rattle.unite_taking.proofs.take_rows.Given as goal

abbrev pub invariant-loop-i : goal.invariant-loop-i
invariant-loop-i l = Ongoing l.mode (rows_of l.initial.growing) l.second.rows.numbers.now l.growing l.map l.i
