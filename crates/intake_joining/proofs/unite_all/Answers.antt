-- The first list is built, and the others are joined to it.
use Rattle.std.proofs.lemmas.Result.{err_from_is_err_and}
use Rattle.intake_lists.specs.Call.{build_lent}
use Rattle.intake_lists.specs.Split.{lists_of, list_of}
use Rattle.intake_lists.proofs.NextList.{no_list}
use Rattle.intake_lists.proofs.Joining.{none_refused, first_refused, all_joined}
use Rattle.intake_joining.proofs.unite_all.Goals as goal

pub returns-in_default : goal.returns-in_default
returns-in_default c =
    let l = c.args.lists.lent in
    none_refused _ (no_list l.productions.now l.counts.now l.lengths.now l.tokens.now c.in_default.ensures) _

pub returns-in_err-build_list : goal.returns-in_err-build_list
unfolding build_lent
returns-in_err-build_list c =
    let p = err_from_is_err_and c.from_residual.result c.from_residual.ensures.1 in
    rw (p.1, p.2, c.in-Some.ensures.0)
    (first_refused (list_of c.in-Some.first) (lists_of c.in-Some.others.lent) _ _ _ c.in_err-build_list.ensures)

pub returns : goal.returns
unfolding build_lent
returns c =
    let n = c.build_list.new.kept in
    rw c.in-Some.ensures.0
    (all_joined (list_of c.in-Some.first) (lists_of c.in-Some.others.lent) n.small.heading n.buf
    c.in_ok-build_list.ensures _ _ c.join_all.ensures)
