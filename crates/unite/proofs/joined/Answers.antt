use mathlib.Core.Path.{sym, subst}
use Rattle.rows.specs.Places.{given}
use Rattle.trees.proofs.Tree.{Tree}
use Rattle.unite_taking.proofs.Ongoing.{tree_of}
use Rattle.unite.proofs.joined.Goals as goal

pub take_rows-requires : goal.take_rows-requires
take_rows-requires c = subst Tree (sym c.copy.ensures.is) (tree_of c.args.first.treed)

pub returns-in-Err-Full : goal.returns-in-Err-Full
returns-in-Err-Full c = c.full.ensures.is (given c.args.prod0) c.args.k c.args.out.now
