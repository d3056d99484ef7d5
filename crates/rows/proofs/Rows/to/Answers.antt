use native.Mathlib.Omega.{arith}
use Rattle.rows.proofs.Fits.{fits_at}
use Rattle.rows.proofs.Rows.to.Goals as goal

pub returns : goal.returns
returns c =
    let f = fits_at c.args.self.numbers.now c.args.self.passed.fits c.args.i c.requires in
    (c.column.ensures.0, omega (arith, f.to, c.column.ensures.0))
