use Rattle.batch.proofs.Minus.{at_most_14, negation}
use Rattle.batch.proofs.below.Goals as goal

pub returns : goal.returns
returns c = rw c.number.ensures (negation _ (at_most_14 c.args.f))
