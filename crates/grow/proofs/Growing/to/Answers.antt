use Rattle.grow.specs.Seen.{seen}
use Rattle.grow_laws.proofs.Viewed.{to_read}
use Rattle.grow.proofs.Growing.to.Goals as goal

pub returns : goal.returns
returns c =
    let g = c.args.self.now in
    to_read (seen g) g.n c.args.i g.laid c.requires _ _ c.to.ensures.0 c.rows.ensures
