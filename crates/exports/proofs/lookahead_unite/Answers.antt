use Rattle.rows.proofs.Signed.{same}
use Rattle.handed.proofs.Hands.{table_hands}
use Rattle.exports.proofs.Fits.{unite_fits}
use Rattle.exports.proofs.lookahead_unite.Goals as goal

pub returns : goal.returns
returns c =
    rw (
      ← c.mode_of-mode.ensures,
      ← same c.args.prod0a c.ranges.prod0a,
      ← same c.args.prod0b c.ranges.prod0b,
    )
    (table_hands _ _ _ _ _ _ (unite_fits _ _ _ _ _ _ _ _) c.unite.ensures c.hand.ensures)
