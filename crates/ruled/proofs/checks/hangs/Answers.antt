use mathlib.Core.Path.{ap, ◌∙◌}
use Prim.Native.Nat.{ℕ}
use native.Mathlib.Omega.{arith}
use lib.Dec.{eqb}
use Rattle.paper.specs.Rows.{rows_in}
use Rattle.rows.specs.Places.{row_at}
use Rattle.rows.proofs.Fits.{fits_at}
use Rattle.ruled.proofs.Hanging.{hang_zero, hang_mark, no_row}
use Rattle.ruled.proofs.checks.hangs.Goals as goal

pub returns-then-from-eq-ROOT : goal.returns-then-from-eq-ROOT
returns-then-from-eq-ROOT c =
    let ns = c.args.marks.rows.now in
    hang_zero (row_at ns c.args.i) c.from_at-from.result c.from_at-from.ensures.is (rows_in ns) c.if-from-eq-ROOT.true

pub first_row-requires : goal.first_row-requires
first_row-requires c =
    let m = c.args.marks in
    omega (arith, c.from_at-from.ensures.is, (fits_at m.rows.now m.fitting.fits c.args.i c.requires).from)

pub returns : goal.returns
returns c =
    let m = c.args.marks in
    let ns = m.rows.now in
    no_row c.first_row.result c.is_none.result c.is_none.ensures
    ∙ ap (λ (n : ℕ). eqb n 0) c.first_row.ensures
    ∙ hang_mark (row_at ns c.args.i) c.from_at-from.result c.from_at-from.ensures.is ns m.into.now m.marked
    (omega (arith, c.from_at-from.ensures.is, (fits_at ns m.fitting.fits c.args.i c.requires).from)) c.if-from-eq-ROOT.false
