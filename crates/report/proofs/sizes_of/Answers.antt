-- `report::sizes_of` meets its contract: archive's answer, intake's, then the table's sizes. Assumes nothing.
use Rattle.std.proofs.Common.{sym, arith}
use Rattle.std.proofs.lemmas.Result.{err_from_is_err_and}
use Rattle.rows.proofs.Rest.{length_rows}
use Rattle.report.proofs.Shrinking.{few, taken_passed, table_small, archive_refused, intake_refused, both_shrunk}
use Rattle.report.proofs.sizes_of.Goals as goal

pub returns-in_err-archive : goal.returns-in_err-archive
returns-in_err-archive c =
    let p = err_from_is_err_and c.from_residual.result c.from_residual.ensures.1 in
    rw (p.1, p.2) (sym (archive_refused _ c.in_err-archive.ensures))

pub returns-in_err-intake : goal.returns-in_err-intake
returns-in_err-intake c =
    let p = err_from_is_err_and c.from_residual-in_err-intake.result c.from_residual-in_err-intake.ensures.1 in
    rw (p.1, p.2) (sym (intake_refused c.in_ok-archive.ensures c.in_err-intake.ensures))

pub invariant_of-few : goal.invariant_of-few
invariant_of-few c = record { passed = taken_passed c.requires }

pub invariant_of-few-2 : goal.invariant_of-few-2
invariant_of-few-2 c = record { few = few c.requires }

pub invariant_of-table : goal.invariant_of-table
invariant_of-table c =
    let small = table_small c.requires in
    record { small = (omega (arith, c.state_count.ensures, small), small.1) }

pub returns : goal.returns
returns c =
    let rows = sym (length_rows c.args.lent.rows.now) in
    sym (both_shrunk c.in_ok-archive.ensures c.in_ok-intake.ensures _ c.state_count.ensures rows)
