-- `text_pieces::field_at` meets its contract. What follows the word, or no word. Assumes nothing.
use Rattle.std.proofs.Common.{sym, ◌∙◌, ◌≡◌}
use Rattle.text_pieces.specs.Pieces.{field_at}
use Rattle.text_pieces.proofs.Starts.{past_found, past_missed}
use Rattle.text_pieces.proofs.Forms.{field_known}
use Rattle.text_pieces.proofs.field_at.Goals as goal

pub returns-in_err-past_word-clause-value : goal.returns-in_err-past_word-clause-value
unfolding field_at
returns-in_err-past_word-clause-value c =
    let a = c.args in
    rw (past_missed a.word.now a.line.now a.at (sym c.past_word.ensures ∙ c.in_err-past_word.was)) c.from_residual.ensures

pub number_at-requires : goal.number_at-requires
number_at-requires c =
    let a = c.args in
    (past_found a.word.now a.line.now a.at _ c.requires (sym c.past_word.ensures ∙ c.in_ok-past_word.was)).2

pub returns : goal.returns
unfolding field_at
returns c =
    let a = c.args in
    let found = past_found a.word.now a.line.now a.at _ c.requires (sym c.past_word.ensures ∙ c.in_ok-past_word.was) in
    let e : c.number_at.result ≡ field_at a.line.now a.at a.word.now = rw (field_at, found.0, ← found.1) c.number_at.ensures in
    record { value = e; within = field_known a.line.now a.at a.word.now c.requires _ e }
