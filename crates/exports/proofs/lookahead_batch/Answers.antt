use Rattle.rows.proofs.Signed.{same}
use Rattle.handed.proofs.Hands.{written_hands}
use Rattle.exports.proofs.lookahead_batch.Goals as goal

pub returns : goal.returns
returns c =
    rw (← c.mode_of-mode.ensures, ← same c.args.prod0 c.ranges.prod0)
    (written_hands _ _ _ _ _ _ c.batch.ensures c.hand.ensures)
