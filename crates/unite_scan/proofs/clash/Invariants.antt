use Rattle.paper.specs.Rows.{rows_in}
use Rattle.unite_scan.proofs.Scanning.{Scanning}
use Rattle.unite_scan.proofs.clash.Given as goal

abbrev pub invariant-loop-i : goal.invariant-loop-i
invariant-loop-i l = Scanning l.mode (rows_in l.first.rows.numbers.now) l.second.rows.numbers.now l.map l.i
