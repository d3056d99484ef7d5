-- `text_lines::reading::head_from` meets its contract. A line with its LF, or none. Assumes nothing.
use Rattle.std.proofs.Common.{sym, ◌∙◌, ◌≡◌}
use Rattle.text_lines.specs.Reading.{head_from}
use Rattle.text_lines.proofs.Ended.{head_unended, head_ended}
use Rattle.text_lines.proofs.Small.{head_known}
use Rattle.text_lines.proofs.reading.head_from.Goals as goal

pub returns-in_err-end-clause-value : goal.returns-in_err-end-clause-value
returns-in_err-end-clause-value c =
    c.from_residual.ensures ∙ sym (head_unended _ _ (sym c.line_from.ensures.value ∙ c.in_err-end.was))

pub returns : goal.returns
returns c =
    let a = c.args in
    let e : c.head_of.result ≡ head_from a.text.now a.at =
    c.head_of.ensures ∙ head_ended _ _ _ (sym c.line_from.ensures.value ∙ c.in_ok-end.was) in
    record { value = e; within = head_known a.text.now a.at _ e }
