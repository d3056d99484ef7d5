use Rattle.handed.proofs.Hands.{table_hands}
use Rattle.exports.proofs.Fits.{intake_fits}
use Rattle.exports.proofs.lookahead_intake.Goals as goal

pub returns : goal.returns
returns c =
    table_hands _ _ _ _ _ _ (intake_fits _ _ _ _ _) c.shrunk_table.ensures
    c.hand.ensures
