use Rattle.rows.proofs.Signed.{same}
use Rattle.handed.proofs.Hands.{table_hands}
use Rattle.exports.proofs.Fits.{shrink_fits}
use Rattle.exports.proofs.lookahead_shrink.Goals as goal

pub returns : goal.returns
returns c =
    rw (← c.mode_of-mode.ensures, ← same c.args.prod0 c.ranges.prod0)
    (table_hands _ _ _ _ _ _ (shrink_fits _ _ _ _ _) c.shrink.ensures c.hand.ensures)
