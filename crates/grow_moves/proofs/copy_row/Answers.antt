use mathlib.Core.Path.{◌∙◌}
use mathlib.Core.List.{[], ◌∷◌}
use Rattle.rows.proofs.Signed.{back}
use Rattle.grow_laws.specs.Moves.{over_row}
use Rattle.grow_moves.proofs.copy_row.Goals as goal

pub returns : goal.returns
returns c =
    let w = back _ c.w-1.given in
    let x = back _ c.x-1.given in
    let y = back _ c.y-1.given in
    let z = back _ c.z-1.given in
    c.put_row.ensures ∙ (λ e. over_row c.args.buf.now c.args.j (w e ∷ x e ∷ y e ∷ z e ∷ []))
