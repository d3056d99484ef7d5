use mathlib.Core.Path.{◌≡◌, refl, ap, ◌∙◌}
use mathlib.Core.List.{List}
use Prim.Native.Nat.{◌+◌}
use native.Mathlib.Omega.{arith}
use lib.IntN.{ℤ}
use Rattle.grow_laws.specs.Moves.{copied, down_four, lowered}
use Rattle.grow_laws.proofs.Lowered.{lower_none, lower_step, lower_four}
use Rattle.grow_moves.proofs.down.lower_rows.Goals as goal

pub loop-i-init : goal.loop-i-init
loop-i-init c = (omega arith, refl, lower_none c.args.buf.now)

pub loop-i-preserved-then-i-p : goal.loop-i-preserved-then-i-p
loop-i-preserved-then-i-p c =
    let b = c.args.buf.now in
    let i = c.loop-i.i in (
      omega arith,
      c.move_four.auto.buf ∙ c.loop-i.invariant.1,
      c.move_four.ensures
          ∙ ap (λ (m : List ℤ). down_four m i) c.loop-i.invariant.2
          ∙ lower_four b i (omega arith),
    )

pub loop-i-preserved : goal.loop-i-preserved
loop-i-preserved c =
    let b = c.args.buf.now in
    let i = c.loop-i.i in (
      omega arith,
      c.copy_row.auto.buf ∙ c.loop-i.invariant.1,
      c.copy_row.ensures
          ∙ ap (λ (m : List ℤ). copied m (i + 1) i) c.loop-i.invariant.2
          ∙ lower_step b i (i + 1) refl (omega arith),
    )

pub returns : goal.returns
returns c =
    let e : c.loop-i.i ≡ c.args.p = omega arith in
    c.loop-i.invariant.2 ∙ ap (lowered c.args.buf.now) e
