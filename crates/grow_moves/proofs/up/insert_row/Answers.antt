use mathlib.Core.Path.{ap, ◌∙◌}
use mathlib.Core.List.{List}
use native.Mathlib.Omega.{arith}
use lib.IntN.{ℤ}
use Rattle.grow_laws.specs.Moves.{over_row}
use Rattle.grow_laws.proofs.Shifted.{fill}
use Rattle.grow_moves.proofs.up.insert_row.Goals as goal

pub returns : goal.returns
returns c =
    let a = c.args in
    c.put_row.ensures
    ∙ ap (λ (l : List ℤ). over_row l a.p a.row) c.open_rows.ensures
    ∙ fill a.buf.now a.n a.p a.row (omega arith) c.requires.0
