use mathlib.Core.Path.{refl}
use Rattle.rows.proofs.Signed.{same}
use Rattle.exports.proofs.lookahead_stretch.Goals as goal

pub returns : goal.returns
returns c =
    let p = c.place-part.ensures in
    rw (← same c.args.prod0 c.ranges.prod0)
    (rw (p.starts, p.counts) refl)
