-- `report::measure` meets its contract: text in's answer, then shrink's on the rows that it wrote. Assumes nothing.
use Rattle.std.proofs.Common.{◌∙◌, sym, arith, rules}
use Rattle.std.proofs.lemmas.Result.{err_from_is_err_and}
use lib.Seq.{length-take-le}
use Rattle.rows.proofs.Signed.{same}
use Rattle.report.proofs.Reading.{text_taken, text_refused}
use Rattle.report.proofs.Reported.{too_long, by_text}
use Rattle.report.proofs.measure.Goals as goal

pub returns-then-input-gt65536 : goal.returns-then-input-gt65536
returns-then-input-gt65536 c = too_long c.args.input.now c.if-input-gt65536.true

pub returns-in_err-title : goal.returns-in_err-title
returns-in_err-title c =
    let p = err_from_is_err_and c.from_residual.result c.from_residual.ensures.1 in
    let input = c.args.input.now in
    rw (p.1, p.2) (sym (text_refused input _ c.in_err-title.ensures) ∙ by_text input c.if-input-gt65536.false)

pub overflow_mul-read : goal.overflow_mul-read
overflow_mul-read c =
    let front = text_taken c.args.input.now _ _ _ c.in_ok-title.ensures in omega (arith, front.few)

pub slice_bounds-read-end : goal.slice_bounds-read-end
slice_bounds-read-end c = (text_taken c.args.input.now _ _ _ c.in_ok-title.ensures).room

pub slice_bounds-lent-end : goal.slice_bounds-lent-end
slice_bounds-lent-end c =
    let front = text_taken c.args.input.now _ _ _ c.in_ok-title.ensures in sym (length-take-le _ _ front.room)

pub sizes_of-requires : goal.sizes_of-requires
sizes_of-requires c =
    let front = text_taken c.args.input.now _ _ _ c.in_ok-title.ensures in
    rw (same c.in_ok-title.title.prod0 (search rules)) front.risen

pub returns : goal.returns
returns c =
    let input = c.args.input.now in
    let front = text_taken input _ _ _ c.in_ok-title.ensures in
    (rw (same c.in_ok-title.title.prod0 (search rules)) at c.sizes_of.ensures)
    ∙ sym front.ruled
    ∙ by_text input c.if-input-gt65536.false
