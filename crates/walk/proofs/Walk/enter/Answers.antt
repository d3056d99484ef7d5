use mathlib.Core.Path.{ap, ◌∙◌}
use Rattle.paper.specs.Predict.{or_else}
use Rattle.rows.specs.Places.{row_at, given}
use Rattle.walk.specs.Seen.{seen}
use Rattle.walk.proofs.Steps.{enters, or_given}
use Rattle.walk.proofs.Walk.enter.Goals as goal

pub returns : goal.returns
returns c =
    let a = c.args in
    let l = ap given c.or.ensures ∙ or_given c.production.result a.self.last
    ∙ ap (λ p. or_else p (given a.self.last)) c.production.ensures in
    enters (seen a.self) (row_at a.rows.numbers.now a.i) _ _ c.to.ensures.0 l
