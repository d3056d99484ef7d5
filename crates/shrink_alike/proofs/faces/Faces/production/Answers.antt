use mathlib.Core.Path.{sym, ◌∙◌}
use native.Mathlib.Omega.{arith}
use Rattle.rows.specs.Places.{given}
use Rattle.ruled.specs.Into.{row_mark}
use Rattle.ruled.proofs.Firsts.{First}
use Rattle.shrink_alike.proofs.Productions.{production_none, production_row}
use Rattle.shrink_alike.proofs.faces.Faces.production.Goals as goal
use Rattle.shrink_alike.proofs.faces.Faces.production.Goals.{In-Some}

-- the row that marks the state
first : (c : In-Some) → First c.args.self.now.rows.numbers.now c.args.s c.in-Some.i
unfolding row_mark
first c =
    let f = c.args.self.now in
    production_row f.rows.numbers.now f.into.now f.indexed.1 c.args.s c.requires c.in-Some.i c.in-Some.ensures

pub returns-in-None : goal.returns-in-None
unfolding row_mark
returns-in-None c =
    let f = c.args.self.now in
    production_none f.rows.numbers.now f.into.now f.indexed.1 c.args.s c.requires (given f.prod0) (sym c.in-None.ensures)

pub production-requires : goal.production-requires
production-requires c = let f = first (goal.at.production-requires c).In-Some in omega (arith, f.there)

pub returns-in-Some : goal.returns-in-Some
returns-in-Some c =
    let g = first (goal.at.returns-in-Some c).In-Some in
    c.production.ensures ∙ sym (g.gives (given c.args.self.now.prod0))
