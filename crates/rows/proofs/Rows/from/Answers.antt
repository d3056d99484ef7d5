use native.Mathlib.Omega.{arith}
use native.Mathlib.Numerals.{unary_clauses}
use Rattle.rows.proofs.Fits.{fits_at}
use Rattle.rows.proofs.Rows.from.Goals as goal

pub returns : goal.returns
returns c =
    let f = fits_at c.args.self.numbers.now c.args.self.passed.fits c.args.i c.requires in
    let e = simp unary_clauses at c.column.ensures.0 in
    (e, omega (arith, f.from, e))
