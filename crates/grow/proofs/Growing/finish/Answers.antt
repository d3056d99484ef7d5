use mathlib.Core.Path.{◌≡◌, ◌∙◌}
use borrow.Author.Rules.{rules}
use mir.Syntax.{w32}
use mir.Val.{to_z, of_z}
use Rattle.rows.specs.Places.{given}
use Rattle.grow.specs.Seen.{seen}
use Rattle.grow_laws.proofs.Answered.{answers_at}
use Rattle.grow.proofs.Growing.finish.Goals as goal

pub returns : goal.returns
returns c =
    let g = c.args.self.now in
    let e : to_z w32 (of_z w32 c.signed.result) ≡ c.signed.result = search rules in
    answers_at (seen g) g.n c.args.k (given c.args.prod0) g.laid _ c.args.out.now c.copy_from_slice.new.self
    (e ∙ c.signed.ensures) (c.copy_from_slice.ensures.after ∙ c.rows.ensures)
