use mathlib.Core.Path.{ap, ◌∙◌}
use Rattle.std.proofs.lemmas.Result.{err_from_is_err_and}
use Rattle.paper.specs.declared.Table.{Table}
use Rattle.paper.specs.Rows.{table}
use Rattle.predict.specs.Checked.{checked}
use Rattle.predict.proofs.Parts.{after_checks}
use Rattle.predict.proofs.predict.Goals as goal

pub returns-in_err-checked : goal.returns-in_err-checked
returns-in_err-checked c =
    let a = c.args in
    let t = a.lent in
    let p = err_from_is_err_and c.from_residual.result c.from_residual.ensures.1 in
    rw (p.1, p.2) (after_checks a.mode t.prod0 t.k t.rows.now a.stream a.tokens.now _ c.in_err-checked.ensures.judges)

pub returns : goal.returns
returns c =
    let a = c.args in
    let t = a.lent in
    c.predict_checked.ensures
    ∙ ap (λ (x : Table). checked a.mode (table x.prod0 x.k x.rows.now) a.stream a.tokens.now) c.in_ok-checked.ensures.same
    ∙ after_checks a.mode t.prod0 t.k t.rows.now a.stream a.tokens.now _ c.in_ok-checked.ensures.judges
