use Rattle.handed.proofs.Hands.{read_hands}
use Rattle.exports.proofs.Fits.{text_fits}
use Rattle.exports.proofs.lookahead_text_in.Goals as goal

pub returns : goal.returns
returns c = read_hands _ _ _ _ _ _ (text_fits _ _) c.text_in.ensures c.hand.ensures
