use mathlib.Core.Path.{◌≡◌}
use Prim.Native.Nat.{◌+◌, ◌-◌, ◌/◌}
use native.Mathlib.Omega.{arith}
use lib.ListN.{length}
use Rattle.counts.proofs.Arrays.{holds_as}
use Rattle.ruled.proofs.Firsts.{into_end, mark_row}
use Rattle.ruled.proofs.into.mark.Goals as goal

pub loop-i-init : goal.loop-i-init
loop-i-init c =
    let ns = c.args.few.rows.numbers.now in
    rw c.count-i.ensures (holds_as (λ s. into_end ns (length ns / 4) s (omega arith)) c.requires)

pub overflow_cast-into : goal.overflow_cast-into
overflow_cast-into c = omega (arith, c.args.few.few)

pub loop-i-preserved : goal.loop-i-preserved
loop-i-preserved c =
    let i = c.loop-i.i in
    let e : i - 1 + 1 ≡ i = omega arith in
    rw e (mark_row c.args.few.rows.numbers.now c.loop-i.into (i - 1) i c.to.result e (omega arith)
    c.loop-i.invariant c.to.ensures.0 (omega (arith, c.to.ensures)))

pub returns : goal.returns
returns c =
    let e : c.loop-i.i ≡ 0 = omega arith in
    rw e at c.loop-i.invariant
