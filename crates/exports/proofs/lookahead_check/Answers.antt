use Rattle.rows.proofs.Signed.{same}
use Rattle.handed.proofs.Hands.{checked_refused, checked_passed}
use Rattle.exports.proofs.lookahead_check.Goals as goal

pub returns-in-Err : goal.returns-in-Err
returns-in-Err c =
    checked_refused c.args.prod0 c.args.k c.args.rows.now _ _
    (rw c.in-Err.is at (rw (same c.args.prod0 c.ranges.prod0) at c.whole.ensures.judges)) c.number.ensures

pub returns-in-Ok : goal.returns-in-Ok
returns-in-Ok c =
    checked_passed c.args.prod0 c.args.k c.args.rows.now _
    (rw c.in-Ok.is at (rw (same c.args.prod0 c.ranges.prod0) at c.whole.ensures.judges))
