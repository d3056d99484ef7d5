use mathlib.Core.Path.{ap, ◌∙◌}
use mathlib.Core.List.{List}
use lib.IntN.{ℤ}
use Rattle.grow_laws.specs.Moves.{over_row}
use Rattle.grow_laws.proofs.Lowered.{fill_low}
use Rattle.grow_moves.proofs.down.insert_row.Goals as goal

pub returns : goal.returns
returns c =
    let a = c.args in
    c.put_row.ensures
    ∙ ap (λ (l : List ℤ). over_row l a.p a.row) c.lower_rows.ensures
    ∙ fill_low a.buf.now a.p c.requires a.row
