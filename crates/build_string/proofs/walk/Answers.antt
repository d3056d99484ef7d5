use native.Mathlib.Omega.{arith}
use Rattle.std.proofs.lemmas.Result.{err_from_is_err_and}
use Rattle.grow.specs.Seen.{seen}
use Rattle.build_string.specs.Steps.{standing}
use Rattle.build_string.proofs.Entered.{state_small}
use Rattle.build_string.proofs.Walked.{walk_on, walk_full, walk_ends}
use Rattle.build_string.proofs.walk.Goals as goal

pub enter-requires : goal.enter-requires
enter-requires c =
    let l = c.loop-token in
    state_small (seen l.rows) l.rows.n l.step.state.0 l.step.at l.rows.laid l.invariant.leads

pub returns-in_err-step : goal.returns-in_err-step
returns-in_err-step c =
    let l = c.loop-token in
    let e = c.in_err-step.ensures in
    let p = err_from_is_err_and c.from_residual.result c.from_residual.ensures.1 in
    rw (p.1, p.2) (
      e.0,
      walk_full (standing c.args.rows.now 0) c.args.string.now l.rows l.step.state.0 l.step.at l.token-index
          l.invariant (omega arith) e.1,
    )

pub loop-token-preserved : goal.loop-token-preserved
loop-token-preserved c =
    let l = c.loop-token in
    walk_on (standing c.args.rows.now 0) c.args.string.now l.rows l.step.state.0 l.step.at l.token-index l.invariant
    (omega arith) _ _ _ c.in_ok-step.ensures

pub returns : goal.returns
returns c =
    let l = c.loop-token in
    walk_ends (standing c.args.rows.now 0) c.args.string.now l.rows l.step.state.0 l.step.at l.token-index l.invariant
    (omega arith)
