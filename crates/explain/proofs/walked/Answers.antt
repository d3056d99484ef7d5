use mathlib.Core.Path.{◌≡◌, sym, ◌∙◌}
use native.Mathlib.Omega.{arith}
use lib.ListN.{length}
use Rattle.paper.specs.Rows.{rows_in}
use Rattle.explain.proofs.Walking.{stop_on, stop_here, stop_end}
use Rattle.explain.proofs.walked.Goals as goal

pub returns-in_default : goal.returns-in_default
returns-in_default c =
    let a = c.args in
    sym (c.loop-i.invariant ∙ stop_here (rows_in a.rows.numbers.now) a.tokens.now c.loop-i.state.0 c.loop-i.i
    (omega arith) c.in_default.ensures.0)

pub loop-i-preserved : goal.loop-i-preserved
loop-i-preserved c =
    let a = c.args in
    c.loop-i.invariant
    ∙ stop_on (rows_in a.rows.numbers.now) a.tokens.now c.loop-i.state.0 c.loop-i.i (omega arith) _ _
    c.in-Ok.ensures.1 c.to.ensures.0

pub returns : goal.returns
returns c =
    let a = c.args in
    let e : length a.tokens.now ≡ c.loop-i.i = omega arith in
    rw e (sym (c.loop-i.invariant ∙ stop_end (rows_in a.rows.numbers.now) a.tokens.now c.loop-i.state.0 c.loop-i.i
    (omega arith)))
