use Rattle.rows.proofs.Signed.{same}
use Rattle.handed.proofs.Hands.{prediction_hands}
use Rattle.exports.proofs.lookahead_predict.Goals as goal

pub returns : goal.returns
returns c =
    rw (← c.mode_of-mode.ensures, ← same c.args.prod0 c.ranges.prod0, ← c.predict.ensures)
    (prediction_hands _ _ _ c.hand.ensures)
