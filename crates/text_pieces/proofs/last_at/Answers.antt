-- `text_pieces::last_at` meets its contract. What follows the word, or no word. Assumes nothing.
use Rattle.std.proofs.Common.{sym, ◌∙◌, ◌≡◌}
use Rattle.text_pieces.specs.Pieces.{last_at}
use Rattle.text_pieces.proofs.Starts.{past_found, past_missed}
use Rattle.text_pieces.proofs.Forms.{last_known}
use Rattle.text_pieces.proofs.last_at.Goals as goal

pub returns-in_err-past_word-clause-value : goal.returns-in_err-past_word-clause-value
unfolding last_at
returns-in_err-past_word-clause-value c =
    let a = c.args in
    rw (past_missed a.word.now a.line.now a.at (sym c.past_word.ensures ∙ c.in_err-past_word.was)) c.from_residual.ensures

pub production_at-requires : goal.production_at-requires
production_at-requires c =
    let a = c.args in
    (past_found a.word.now a.line.now a.at _ c.requires (sym c.past_word.ensures ∙ c.in_ok-past_word.was)).2

pub returns : goal.returns
unfolding last_at
returns c =
    let a = c.args in
    let found = past_found a.word.now a.line.now a.at _ c.requires (sym c.past_word.ensures ∙ c.in_ok-past_word.was) in
    let e : c.production_at.result ≡ last_at a.line.now a.at a.word.now = rw (last_at, found.0, ← found.1) c.production_at.ensures in
    record { value = e; within = last_known a.line.now a.at a.word.now c.requires _ e }
