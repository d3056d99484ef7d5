-- `text_lines::reading::row_from` meets its contract. A line with its LF, or none. Assumes nothing.
use Rattle.std.proofs.Common.{sym, ◌∙◌, ◌≡◌}
use Rattle.text_lines.specs.Reading.{row_from}
use Rattle.text_lines.proofs.Ended.{row_unended, row_ended}
use Rattle.text_lines.proofs.Small.{row_known}
use Rattle.text_lines.proofs.reading.row_from.Goals as goal

pub returns-in_err-end-clause-value : goal.returns-in_err-end-clause-value
returns-in_err-end-clause-value c =
    c.from_residual.ensures ∙ sym (row_unended _ _ (sym c.line_from.ensures.value ∙ c.in_err-end.was))

pub returns : goal.returns
returns c =
    let a = c.args in
    let e : c.row_of.result ≡ row_from a.text.now a.at =
    c.row_of.ensures ∙ row_ended _ _ _ (sym c.line_from.ensures.value ∙ c.in_ok-end.was) in
    record { value = e; within = row_known a.text.now a.at _ e }
