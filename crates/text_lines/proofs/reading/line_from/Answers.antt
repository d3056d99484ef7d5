-- `text_lines::reading::line_from` meets its contract. No line past the text, and the first LF from the place on.
-- Assumes nothing.
use Rattle.std.proofs.Common.{sym, ◌∙◌, ◌≡◌, ◌<◌, length, drop, arith}
use Rattle.std.proofs.lemmas.List.{take_rest}
use Rattle.text_lines.proofs.Ended.{line_beyond, lf_found, lf_none}
use Rattle.text_lines.proofs.reading.line_from.Goals as goal

pub returns-in_err-get-clause-value : goal.returns-in_err-get-clause-value
returns-in_err-get-clause-value c =
    let a = c.args in
    let h : length a.text.now < a.at = omega (arith, c.in_err-get.ensures.lookup) in
    c.from_residual.ensures ∙ sym (line_beyond a.text.now a.at h)

pub returns-in_err-lf-clause-value : goal.returns-in_err-lf-clause-value
returns-in_err-lf-clause-value c =
    let a = c.args in
    let got = c.in_ok-get.ensures.lookup.0 in
    let rest : c.in_ok-get.field-0.now ≡ drop a.at a.text.now = got.2 ∙ take_rest a.text.now a.at in
    c.from_residual-in_err-lf.ensures
    ∙ sym (lf_none a.text.now a.at got.0 (rw rest at (sym c.lf.ensures ∙ c.in_err-lf.was)))

pub returns-clause-value : goal.returns-clause-value
returns-clause-value c =
    let a = c.args in
    let got = c.in_ok-get.ensures.lookup.0 in
    let rest : c.in_ok-get.field-0.now ≡ drop a.at a.text.now = got.2 ∙ take_rest a.text.now a.at in
    sym (lf_found a.text.now a.at got.0 _ (rw rest at (sym c.lf.ensures ∙ c.in_ok-lf.was)))
