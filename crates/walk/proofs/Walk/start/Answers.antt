use mathlib.Core.Path.{refl}
use Rattle.paper.specs.Predict.{start}
use Rattle.walk.proofs.Walk.start.Goals as goal

pub returns : goal.returns
unfolding start
returns c = refl
