use mathlib.Core.Path.{◌≡◌, refl, ap, ◌∙◌}
use Prim.Native.Nat.{◌+◌, ◌-◌}
use mathlib.Core.List.{List}
use native.Mathlib.Omega.{arith}
use lib.IntN.{ℤ}
use Rattle.grow_laws.specs.Moves.{up_row, up_four, opened}
use Rattle.grow_laws.proofs.Shifted.{open_none, open_step, open_four}
use Rattle.grow_moves.proofs.up.open_rows.Goals as goal

pub loop-i-init : goal.loop-i-init
loop-i-init c = (omega arith, omega arith, refl, open_none c.args.buf.now c.args.d c.args.n c.requires.1)

pub loop-i-preserved-then-p-i : goal.loop-i-preserved-then-p-i
loop-i-preserved-then-p-i c =
    let b = c.args.buf.now in
    let d = c.args.d in
    let n = c.args.n in
    let k = c.loop-i.i - 4 in
    let e : c.loop-i.i ≡ k + 4 = omega arith in (
      omega arith,
      omega arith,
      c.move_four.auto.buf ∙ c.loop-i.invariant.2,
      c.move_four.ensures
          ∙ ap (λ (m : List ℤ). up_four m d k) (c.loop-i.invariant.3 ∙ ap (opened b d n) e)
          ∙ open_four b d n c.requires.1 k (omega arith),
    )

pub loop-i-preserved : goal.loop-i-preserved
loop-i-preserved c =
    let b = c.args.buf.now in
    let d = c.args.d in
    let n = c.args.n in
    let k = c.loop-i.i - 1 in
    let e : c.loop-i.i ≡ k + 1 = omega arith in (
      omega arith,
      omega arith,
      c.copy_row.auto.buf ∙ c.loop-i.invariant.2,
      c.copy_row.ensures
          ∙ ap (λ (m : List ℤ). up_row m d k) (c.loop-i.invariant.3 ∙ ap (opened b d n) e)
          ∙ open_step b d n c.requires.1 k (omega arith),
    )

pub returns : goal.returns
returns c =
    let e : c.loop-i.i ≡ c.args.p = omega arith in
    c.loop-i.invariant.3 ∙ ap (opened c.args.buf.now c.args.d c.args.n) e
