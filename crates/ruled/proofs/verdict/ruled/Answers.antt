-- The verdict of 2 and 3 stands where it refuses; else that of 4 to 6 decides.
use mathlib.Core.Path.{ap, ◌∙◌}
use Rattle.std.proofs.lemmas.Result.{err_from_is_err_and}
use Rattle.paper.specs.declared.Table.{Table}
use Rattle.paper.specs.Rows.{table}
use Rattle.row_checks.proofs.Judged.{passes, same_verdict}
use Rattle.ruled.specs.Beyond.{beyond}
use Rattle.ruled.proofs.Judging.{judges_stop, judges_on, passes_on, beyond_rows}
use Rattle.ruled.proofs.verdict.ruled.Goals as goal

pub returns-in_err-checked-clause-judges : goal.returns-in_err-checked-clause-judges
returns-in_err-checked-clause-judges c =
    let t = c.args.lent.table in
    let p = err_from_is_err_and c.from_residual.result c.from_residual.ensures.1 in
    rw (p.1, p.2) (judges_stop (beyond (table t.prod0 t.k t.rows.now)) _ c.in_err-checked.ensures.judges)

pub returns-in_err-beyond-clause-judges : goal.returns-in_err-beyond-clause-judges
returns-in_err-beyond-clause-judges c =
    let t = c.args.lent.table in
    let e = c.rows.ensures ∙ ap (λ (x : Table). x.rows.now) c.in_ok-checked.ensures.same in
    let p = err_from_is_err_and c.from_residual-in_err-beyond.result c.from_residual-in_err-beyond.ensures.1 in
    rw (p.1, p.2) (judges_on (beyond (table t.prod0 t.k t.rows.now)) (passes c.in_ok-checked.ensures.judges)
    (same_verdict _ (beyond_rows t.prod0 t.k t.rows.now _ (rw e at c.in_err-beyond.ensures))))

pub invariant_of-result : goal.invariant_of-result
invariant_of-result c =
    let t = c.args.lent.table in
    let e = c.rows.ensures ∙ ap (λ (x : Table). x.rows.now) c.in_ok-checked.ensures.same in
    record {
      sound = record {
        checked = passes_on (passes c.in_ok-checked.ensures.judges)
            (passes (beyond_rows t.prod0 t.k t.rows.now _ (rw e at c.in_ok-beyond.ensures)));
        sized = c.args.lent.whole;
      };
    }
