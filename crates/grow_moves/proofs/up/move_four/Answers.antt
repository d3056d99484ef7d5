-- `move_four` of rows that go up copies four rows, the last first. Assumes nothing.
use mathlib.Core.Path.{ap, ◌∙◌}
use mathlib.Core.List.{List}
use Prim.Native.Nat.{◌+◌}
use lib.IntN.{ℤ}
use Rattle.grow_laws.specs.Moves.{up_row}
use Rattle.grow_moves.proofs.up.move_four.Goals as goal

pub returns : goal.returns
returns c =
    let a = c.args in
    c.copy_row-4.ensures ∙ ap (λ (m : List ℤ). up_row m a.d a.i) (
    c.copy_row-3.ensures ∙ ap (λ (m : List ℤ). up_row m a.d (a.i + 1)) (
    c.copy_row-2.ensures ∙ ap (λ (m : List ℤ). up_row m a.d (a.i + 2)) c.copy_row.ensures))
