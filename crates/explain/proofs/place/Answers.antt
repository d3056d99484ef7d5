use mathlib.Core.Path.{sym, ap, ◌∙◌}
use Rattle.paper.specs.declared.Table.{Table}
use Rattle.explain.specs.Stopped.{stopped}
use Rattle.explain.proofs.Stretches.{lies_at_end, stretch_refused, stretch_passed}
use Rattle.explain.proofs.place.Goals as goal

pub returns-in-Ok : goal.returns-in-Ok
returns-in-Ok c =
    let t = c.args.lent in
    let d = ap (λ (x : Table). x.rows.now) c.in-Ok.ensures.same in
    let walked = rw (c.rows-in-Ok.ensures ∙ d) at c.walked.ensures in
    rw (sym (stretch_passed t.prod0 t.k t.rows.now c.args.tokens.now _ (stopped c.walked.result)
    c.in-Ok.ensures.judges walked)) (rw (c.rows.ensures ∙ d) at c.left_rows.ensures)

pub returns-in-Err : goal.returns-in-Err
returns-in-Err c =
    let t = c.args.lent in
    lies_at_end t.rows.now (stretch_refused t.prod0 t.k t.rows.now c.args.tokens.now _ c.in-Err.ensures.judges)
