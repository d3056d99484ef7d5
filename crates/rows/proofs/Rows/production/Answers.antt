use Rattle.rows.proofs.Fits.{fits_at}
use Rattle.rows.proofs.Signed.{back}
use Rattle.rows.proofs.Rows.production.Goals as goal

pub accepting-requires : goal.accepting-requires
accepting-requires c =
    rw (back _ c.accepting-arg-1.given) ((fits_at c.args.self.numbers.now c.args.self.passed.fits c.args.i c.requires).production)
