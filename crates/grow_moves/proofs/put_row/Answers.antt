use mathlib.Core.Path.{◌∙◌}
use borrow.Author.Rules.{rules}
use Rattle.grow_laws.proofs.Shifted.{stored}
use Rattle.grow_moves.proofs.put_row.Goals as goal

pub returns : goal.returns
returns c =
    c.put_four.ensures
    ∙ stored c.args.buf.now c.args.i c.args.row c.requires (search rules) (search rules) (search rules) (search rules)
    (search rules)
