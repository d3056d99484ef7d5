use mathlib.Core.Path.{◌≡◌, ◌∙◌}
use borrow.Author.Rules.{rules}
use mir.Syntax.{w32}
use mir.Val.{to_z, of_z}
use Rattle.rows.proofs.Fits.{fits_at}
use Rattle.ruled.proofs.checks.production.Goals as goal

pub accepting-requires : goal.accepting-requires
accepting-requires c =
    let m = c.args.marks in
    let e : to_z w32 (of_z w32 c.production_at.result) ≡ c.production_at.result = search rules in
    rw (e ∙ c.production_at.ensures) ((fits_at m.rows.now m.fitting.fits c.args.i c.requires).production)
