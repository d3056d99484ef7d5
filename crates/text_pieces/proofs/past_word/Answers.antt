-- `text_pieces::past_word` meets its contract. Assumes nothing.
use Rattle.std.proofs.Common.{◌∙◌}
use Rattle.std.proofs.lemmas.List.{take_rest}
use Rattle.text_pieces.specs.Pieces.{past_word}
use Rattle.text_pieces.proofs.Starts.{starts_is, then_cond}
use Rattle.text_pieces.proofs.past_word.Goals as goal

pub returns : goal.returns
unfolding past_word
returns c =
    let a = c.args in
    let starts = rw (take_rest a.line.now a.at) at c.starts_with.ensures.value ∙ starts_is a.word.now _ in
    (rw starts at c.then_some.ensures) ∙ then_cond _ _
