-- `move_four` of rows that go down copies four rows, the first first. Assumes nothing.
use mathlib.Core.Path.{ap, ◌∙◌}
use mathlib.Core.List.{List}
use Prim.Native.Nat.{◌+◌}
use lib.IntN.{ℤ}
use Rattle.grow_laws.specs.Moves.{copied}
use Rattle.grow_moves.proofs.down.move_four.Goals as goal

pub returns : goal.returns
returns c =
    let i = c.args.i in
    c.copy_row-4.ensures ∙ ap (λ (m : List ℤ). copied m (i + 4) (i + 3)) (
    c.copy_row-3.ensures ∙ ap (λ (m : List ℤ). copied m (i + 3) (i + 2)) (
    c.copy_row-2.ensures ∙ ap (λ (m : List ℤ). copied m (i + 2) (i + 1)) c.copy_row.ensures))
