use Rattle.rows.proofs.Signed.{same}
use Rattle.handed.proofs.Hands.{written_hands}
use Rattle.exports.proofs.lookahead_text_out.Goals as goal

pub returns : goal.returns
returns c =
    rw (← same c.args.prod0 c.ranges.prod0)
    (written_hands _ _ _ _ _ _ c.text_out.ensures c.hand.ensures)
