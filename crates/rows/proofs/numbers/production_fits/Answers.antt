use Rattle.rows.proofs.Signed.{fits_above, fits_below}
use Rattle.rows.proofs.numbers.production_fits.Goals as goal

pub returns-then-x-ge-NO_PRODUCTION : goal.returns-then-x-ge-NO_PRODUCTION
returns-then-x-ge-NO_PRODUCTION c = fits_above c.args.x c.ranges.x c.if-x-ge-NO_PRODUCTION.true

pub returns-else-x-ge-NO_PRODUCTION : goal.returns-else-x-ge-NO_PRODUCTION
returns-else-x-ge-NO_PRODUCTION c = fits_below c.args.x c.ranges.x c.if-x-ge-NO_PRODUCTION.false
