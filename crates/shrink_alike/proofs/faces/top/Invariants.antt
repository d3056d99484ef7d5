use Rattle.rows.specs.Places.{rest}
use Rattle.shrink_alike.proofs.Entered.{Below}
use Rattle.shrink_alike.proofs.faces.top.Given as goal

abbrev pub invariant-loop-i : goal.invariant-loop-i
invariant-loop-i l = Below (rest l.rows.numbers.now l.i) l.top
