-- `text_pieces::ends_at` meets its contract. Assumes nothing.
use Rattle.std.proofs.Common.{◌∙◌}
use Rattle.std.proofs.lemmas.List.{take_rest}
use Rattle.text_pieces.proofs.Starts.{ends_is}
use Rattle.text_pieces.proofs.ends_at.Goals as goal

pub returns : goal.returns
returns c =
    let a = c.args in
    rw (take_rest a.line.now a.at) at c.eq.ensures ∙ ends_is a.word.now a.line.now a.at c.requires
