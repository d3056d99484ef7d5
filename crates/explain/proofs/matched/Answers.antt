use mathlib.Core.Path.{ap, ◌∙◌}
use Rattle.std.proofs.lemmas.Result.{err_from_is_err_and}
use Rattle.paper.specs.declared.Table.{Table}
use Rattle.paper.specs.Rows.{rows_in}
use Rattle.paper.specs.Explain.{stop}
use Rattle.explain.specs.Stopped.{stopped}
use Rattle.explain.proofs.Stretches.{matched_refused, matched_passed}
use Rattle.explain.proofs.matched.Goals as goal

pub returns-in_err-checked : goal.returns-in_err-checked
returns-in_err-checked c =
    let t = c.args.lent in
    let p = err_from_is_err_and c.from_residual.result c.from_residual.ensures.1 in
    rw (p.1, p.2) (matched_refused t.prod0 t.k t.rows.now c.args.tokens.now _ c.in_err-checked.ensures.judges)

pub returns : goal.returns
returns c =
    let t = c.args.lent in
    let e = c.rows.ensures ∙ ap (λ (x : Table). x.rows.now) c.in_ok-checked.ensures.same in
    matched_passed t.prod0 t.k t.rows.now c.args.tokens.now _ (stopped c.walked.result) c.in_ok-checked.ensures.judges
    (rw e at c.walked.ensures)
