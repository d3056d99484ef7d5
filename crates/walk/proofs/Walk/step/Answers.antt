use mathlib.Core.Path.{◌∙◌}
use Rattle.paper.specs.Rows.{rows_in}
use Rattle.walk.specs.Seen.{seen}
use Rattle.walk.proofs.Steps.{steps_in, steps_by}
use Rattle.walk.proofs.Walk.step.Goals as goal

pub returns-in-Ok : goal.returns-in-Ok
returns-in-Ok c =
    let a = c.args in
    c.enter.ensures ∙ steps_in (rows_in a.rows.numbers.now) a.token.0 (seen a.self) _ c.in-Ok.ensures.1

pub returns-in-Err : goal.returns-in-Err
returns-in-Err c =
    let a = c.args in
    steps_by (rows_in a.rows.numbers.now) a.token.0 (seen a.self) c.in-Err.ensures.0
