use lib.ListN.{length}
use Rattle.std.specs.Prelude.{Ok, Err}
use Rattle.std.proofs.lemmas.Result.{err_from_is_err_and}
use Rattle.paper.specs.declared.Refusal.TheVariants.{Length}
use Rattle.row_checks.proofs.Judged.{passes, passes_first}
use Rattle.shrink.proofs.Parts.{refusal_makes, answer_makes, refused_slice, refused_room, after_checks}
use Rattle.shrink.proofs.shrink.Goals as goal

pub returns-in_err-measured : goal.returns-in_err-measured
returns-in_err-measured c =
    let a = c.args in
    let p = err_from_is_err_and c.from_residual.result c.from_residual.ensures.1 in
    rw (p.1, p.2) (refusal_makes _ _ a.out.now (refused_slice a.mode a.lent.prod0 a.lent.k a.lent.rows.now
    (length a.out.now) _ c.in_err-measured.ensures.judges))

pub returns-then-out-lt16384 : goal.returns-then-out-lt16384
returns-then-out-lt16384 c =
    let a = c.args in
    refusal_makes _ Length a.out.now (refused_room a.mode a.lent.prod0 a.lent.k a.lent.rows.now (length a.out.now)
    (passes_first (passes c.in_ok-measured.ensures.judges)).0 c.if-out-lt16384.true)

pub returns-in_err-table : goal.returns-in_err-table
returns-in_err-table c =
    let a = c.args in
    let p = err_from_is_err_and c.from_residual-in_err-table.result c.from_residual-in_err-table.ensures.1 in
    rw (p.1, p.2) (refusal_makes _ _ a.out.now (after_checks a.mode a.lent.prod0 a.lent.k a.lent.rows.now
    (length a.out.now) (passes_first (passes c.in_ok-measured.ensures.judges)).0 c.if-out-lt16384.false (Err _)
    (rw c.in_ok-measured.ensures.same at c.in_err-table.ensures.judges)))

pub returns : goal.returns
returns c =
    let a = c.args in
    answer_makes (after_checks a.mode a.lent.prod0 a.lent.k a.lent.rows.now
    (length a.out.now) (passes_first (passes c.in_ok-measured.ensures.judges)).0 c.if-out-lt16384.false (Ok _)
    (rw c.in_ok-measured.ensures.same at c.in_ok-table.ensures.judges))
    (rw (c.in_ok-table.ensures.same, c.in_ok-measured.ensures.same) at c.shrink_ruled.ensures)
