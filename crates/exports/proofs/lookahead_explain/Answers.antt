use Rattle.rows.proofs.Signed.{same}
use Rattle.exports.proofs.lookahead_explain.Goals as goal

pub returns : goal.returns
returns c = rw (← same c.args.prod0 c.ranges.prod0, ← c.matched.ensures) c.hand.ensures
