use mathlib.Core.Path.{◌≡◌, ◌∙◌}
use borrow.Author.Rules.{rules}
use mir.Syntax.{w32}
use mir.Val.{to_z, of_z}
use native.Mathlib.Omega.{arith}
use Rattle.rows.specs.Places.{row_at}
use Rattle.rows.proofs.Fits.{from_out, terminal_out, to_out, production_left}
use Rattle.row_checks.proofs.fits_at.Goals as goal

pub returns-then-from_at-gt1023 : goal.returns-then-from_at-gt1023
returns-then-from_at-gt1023 c = from_out (row_at c.args.rows.now c.args.i) (omega (arith, c.from_at.ensures.is))

pub returns-then-terminal_at-gt65535 : goal.returns-then-terminal_at-gt65535
returns-then-terminal_at-gt65535 c =
    terminal_out (row_at c.args.rows.now c.args.i)
    (omega (arith, c.from_at.ensures.is)) (omega (arith, c.terminal_at.ensures.is))

pub returns-then-to_at-gt1023 : goal.returns-then-to_at-gt1023
returns-then-to_at-gt1023 c =
    to_out (row_at c.args.rows.now c.args.i)
    (omega (arith, c.from_at.ensures.is)) (omega (arith, c.terminal_at.ensures.is))
    (omega (arith, c.to_at.ensures.is))

pub returns : goal.returns
returns c =
    let e : to_z w32 (of_z w32 c.production_at.result) ≡ c.production_at.result = search rules in
    rw (e ∙ c.production_at.ensures) at c.production_fits.ensures
    ∙ production_left (row_at c.args.rows.now c.args.i)
    (omega (arith, c.from_at.ensures.is)) (omega (arith, c.terminal_at.ensures.is))
    (omega (arith, c.to_at.ensures.is))
