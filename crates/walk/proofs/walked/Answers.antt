use mathlib.Core.Path.{sym, ap, ◌∙◌}
use native.Mathlib.Omega.{arith}
use lib.ListN.{get_or}
use Rattle.paper.specs.Rows.{rows_in}
use Rattle.paper.specs.Predict as paper
use Rattle.paper.specs.Predict.{start, step, walk}
use Rattle.walk.specs.Seen.{seen}
use Rattle.walk.proofs.Steps.{step_count, walk_next, walk_end}
use Rattle.walk.proofs.walked.Goals as goal

pub loop-token-init : goal.loop-token-init
unfolding start
loop-token-init c =
    let e = c.start-w.ensures in (
      omega (arith, ap (λ (w : paper.Walk). w.entered) e),
      ap (walk (rows_in c.args.rows.numbers.now) c.args.tokens.now) (sym e),
    )

pub loop-token-preserved : goal.loop-token-preserved
loop-token-preserved c =
    let a = c.args in
    let rs = rows_in a.rows.numbers.now in
    let i = c.loop-token.token-index in
    let e = c.step-w.ensures in (
      omega (arith, step_count rs (get_or a.tokens.now i 0) (seen c.loop-token.w), ap (λ (w : paper.Walk). w.entered) e),
      c.loop-token.invariant.1
          ∙ walk_next rs a.tokens.now i (seen c.loop-token.w) (seen c.step-w.result) (omega arith) e,
    )

pub returns : goal.returns
returns c =
    let a = c.args in
    sym (c.loop-token.invariant.1 ∙ walk_end (rows_in a.rows.numbers.now) a.tokens.now c.loop-token.token-index
    (seen c.loop-token.w) (omega arith))
