-- prod0 and k, then the rows.
use mathlib.Core.Path.{refl, sym, ◌∙◌}
use Rattle.std.proofs.lemmas.Result.{err_from_is_err_and}
use Rattle.paper.specs.declared.Refusal.TheVariants.{Range}
use Rattle.paper.specs.Rows.{table}
use Rattle.std.proofs.Common.{rules}
use Rattle.rows.proofs.Signed.{same}
use Rattle.rows.proofs.Fits.{head_coded, head_out, rows_left}
use Rattle.row_checks.proofs.Judged.{refuses, of_table, passes, same_verdict}
use Rattle.row_checks.proofs.plain.Goals as goal

pub returns-then-not-head_fits-clause-judges : goal.returns-then-not-head_fits-clause-judges
returns-then-not-head_fits-clause-judges c =
    let t = c.args.lent in
    let coded = rw (same t.prod0 (search rules)) at c.coded.ensures.is in
    let fits = c.head_fits.ensures ∙ head_coded _ t.k _ coded in
    refuses Range refl refl (head_out (table t.prod0 t.k t.rows.now) (sym fits ∙ c.if-not-head_fits.true))

pub returns-in_err-in_one_pass-clause-judges : goal.returns-in_err-in_one_pass-clause-judges
returns-in_err-in_one_pass-clause-judges c =
    let t = c.args.lent in
    let p = err_from_is_err_and c.from_residual.result c.from_residual.ensures.1 in
    let coded = rw (same t.prod0 (search rules)) at c.coded.ensures.is in
    let fits = c.head_fits.ensures ∙ head_coded _ t.k _ coded in
    rw (p.1, p.2) (of_table t.prod0 t.k t.rows.now
    (rows_left (table t.prod0 t.k t.rows.now) (sym fits ∙ c.if-not-head_fits.false))
    (same_verdict _ c.in_err-in_one_pass.ensures))

pub invariant_of-result : goal.invariant_of-result
invariant_of-result c =
    let t = c.args.lent in
    let coded = rw (same t.prod0 (search rules)) at c.coded.ensures.is in
    let fits = c.head_fits.ensures ∙ head_coded _ t.k _ coded in
    record {
      sound = record {
        checked = passes (of_table t.prod0 t.k t.rows.now
            (rows_left (table t.prod0 t.k t.rows.now) (sym fits ∙ c.if-not-head_fits.false))
            c.in_ok-in_one_pass.ensures);
      };
    }
