-- `text_pieces::production_at` meets its contract. -1, or a number. Assumes nothing.
use Rattle.std.proofs.Common.{sym, ◌∙◌, ◌<◌, ◌^◌, arith}
use Rattle.std.proofs.lemmas.Int.{to_z_pos}
use mir.Syntax.{w32}
use Rattle.paper.specs.Words.{bytes}
use Rattle.text_pieces.specs.Pieces.{production_at}
use Rattle.text_pieces.proofs.Forms.{number_within}
use Rattle.text_pieces.proofs.Starts.{past_found, past_missed}
use Rattle.text_pieces.proofs.production_at.Goals as goal

pub returns-in-Some : goal.returns-in-Some
unfolding production_at bytes
returns-in-Some c =
    let a = c.args in
    let found = past_found _ a.line.now a.at _ c.requires (sym c.past_word.ensures ∙ c.in-Some.is) in
    rw (found.0, found.1, c.signed.ensures)

pub returns-in_err-value : goal.returns-in_err-value
unfolding production_at bytes
returns-in_err-value c =
    let a = c.args in
    let missed = past_missed _ a.line.now a.at (sym c.past_word.ensures ∙ c.in_default.is) in
    rw (missed, sym c.number_at.ensures ∙ c.in_err-value.was) c.from_residual.ensures

pub overflow_cast-result : goal.overflow_cast-result
overflow_cast-result c =
    let h = number_within c.args.line.now c.args.at _ _ c.requires (sym c.number_at.ensures ∙ c.in_ok-value.was) in
    omega (arith, h.small)

pub returns : goal.returns
unfolding production_at bytes
returns c =
    let a = c.args in
    let missed = past_missed _ a.line.now a.at (sym c.past_word.ensures ∙ c.in_default.is) in
    let read = sym c.number_at.ensures ∙ c.in_ok-value.was in
    let h = number_within a.line.now a.at _ _ c.requires read in
    let z : c.in_ok-value.value < 2 ^ 31 = omega (arith, h.small) in
    rw (missed, read, to_z_pos w32 c.in_ok-value.value z)
