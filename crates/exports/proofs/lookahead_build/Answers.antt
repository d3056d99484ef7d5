use Rattle.rows.proofs.Signed.{same}
use Rattle.handed.proofs.Hands.{table_hands}
use Rattle.exports.proofs.Fits.{build_fits}
use Rattle.exports.proofs.lookahead_build.Goals as goal

pub returns : goal.returns
returns c =
    rw (← same c.args.production c.ranges.production)
    (table_hands _ _ _ _ _ _ (build_fits _ _ _ _) c.build.ensures c.hand.ensures)
