use borrow.Author.Rules.{rules}
use Rattle.paper.specs.Checks.{production_fits}
use Rattle.rows.specs.Places.{given}
use Rattle.grow.specs.Seen.{seen}
use Rattle.grow_laws.proofs.Painted.{gives}
use Rattle.grow.proofs.Growing.give.Goals as goal

pub invariant_of-self : goal.invariant_of-self
unfolding production_fits
invariant_of-self c =
    let g = c.args.self.now in
    record {
      laid = (gives (seen g) _ g.n c.args.i (given c.args.production) _ g.laid c.requires.0 c.requires.1
          (search rules) (search rules) c.set.ensures).laid;
    }
