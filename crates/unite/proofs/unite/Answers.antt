use Rattle.std.proofs.lemmas.Result.{err_from_is_err_and}
use Rattle.row_checks.proofs.Judged.{passes}
use Rattle.unite.proofs.Outcomes.{at_first, at_second, at_room, at_first_tree, at_second_tree, past_checks}
use Rattle.unite.proofs.unite.Goals as goal

pub returns-in_err-first_measured : goal.returns-in_err-first_measured
returns-in_err-first_measured c =
    let p = err_from_is_err_and c.from_residual.result c.from_residual.ensures.1 in
    rw (p.1, p.2) (at_first _ _ _ _ _ _ _ _ _ _ c.in_err-first_measured.ensures.judges)

pub returns-in_err-second_measured : goal.returns-in_err-second_measured
returns-in_err-second_measured c =
    let r = c.from_residual-in_err-second_measured in
    let p = err_from_is_err_and r.result r.ensures.1 in
    rw (p.1, p.2)
    (at_second _ _ _ _ _ _ _ _ _ (passes c.in_ok-first_measured.ensures.judges) _
    c.in_err-second_measured.ensures.judges)

pub returns-then-out-lt16384 : goal.returns-then-out-lt16384
returns-then-out-lt16384 c =
    at_room _ _ _ _ _ _ _ _ _ (passes c.in_ok-first_measured.ensures.judges)
    (passes c.in_ok-second_measured.ensures.judges) c.if-out-lt16384.true

pub returns-in_err-first_tree : goal.returns-in_err-first_tree
returns-in_err-first_tree c =
    let r = c.from_residual-in_err-first_tree in
    let p = err_from_is_err_and r.result r.ensures.1 in
    rw (p.1, p.2)
    (at_first_tree _ _ _ _ _ _ _ _ _ (passes c.in_ok-first_measured.ensures.judges)
    (passes c.in_ok-second_measured.ensures.judges) c.if-out-lt16384.false _
    (rw c.in_ok-first_measured.ensures.same at c.in_err-first_tree.ensures.judges))

pub returns-in_err-second_tree : goal.returns-in_err-second_tree
returns-in_err-second_tree c =
    let r = c.from_residual-in_err-second_tree in
    let p = err_from_is_err_and r.result r.ensures.1 in
    rw (p.1, p.2)
    (at_second_tree _ _ _ _ _ _ _ _ _ (passes c.in_ok-first_measured.ensures.judges)
    (passes c.in_ok-second_measured.ensures.judges) c.if-out-lt16384.false
    (passes (rw c.in_ok-first_measured.ensures.same at c.in_ok-first_tree.ensures.judges)) _
    (rw c.in_ok-second_measured.ensures.same at c.in_err-second_tree.ensures.judges))

pub returns : goal.returns
returns c =
    let a = c.in_ok-first_measured.ensures in
    let b = c.in_ok-second_measured.ensures in
    past_checks _ _ _ _ _ _ _ _ _ (passes a.judges) (passes b.judges) c.if-out-lt16384.false
    (passes (rw a.same at c.in_ok-first_tree.ensures.judges))
    (passes (rw b.same at c.in_ok-second_tree.ensures.judges)) _ _
    (rw (c.in_ok-first_tree.ensures.same, a.same, c.in_ok-second_tree.ensures.same, b.same) at c.united.ensures)
