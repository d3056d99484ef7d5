use mathlib.Core.Path.{sym, ap, ◌∙◌}
use native.Mathlib.Omega.{arith}
use Rattle.rows.specs.Places.{code, uncoded}
use Rattle.rows.proofs.Codes.{code_uncoded}
use Rattle.rows.proofs.Signed.{same}
use Rattle.std.proofs.Common.{rules}
use Rattle.ruled.specs.Into.{row_mark}
use Rattle.ruled.proofs.Firsts.{First}
use Rattle.shrink_alike.proofs.Productions.{production_none, production_row}
use Rattle.shrink_alike.proofs.same.production.Goals as goal
use Rattle.shrink_alike.proofs.same.production.Goals.{In-Some}

-- the row that marks the state
first : (c : In-Some) → First c.args.rows.now c.args.s c.in-Some.i
unfolding row_mark
first c =
    production_row c.args.rows.now c.args.into.now c.requires.0.1 c.args.s c.requires.1 c.in-Some.i c.in-Some.ensures

pub returns-in-None : goal.returns-in-None
unfolding row_mark
returns-in-None c =
    sym (code_uncoded c.args.p0) ∙ ap code (production_none c.args.rows.now c.args.into.now c.requires.0.1 c.args.s
    c.requires.1 (uncoded c.args.p0) (sym c.in-None.ensures))

pub production_at-requires : goal.production_at-requires
production_at-requires c = let f = first (goal.at.production_at-requires c).In-Some in omega (arith, f.there)

pub returns-in-Some : goal.returns-in-Some
returns-in-Some c =
    let g = first (goal.at.returns-in-Some c).In-Some in
    c.coded.ensures.is ∙ rw (same c.production_at.result (search rules), c.production_at.ensures)
    (ap code (sym (g.gives (uncoded c.args.p0))))
