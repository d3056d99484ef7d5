use mathlib.Core.Path.{◌≡◌}
use Prim.Native.Nat.{◌-◌}
use native.Mathlib.Omega.{arith}
use Rattle.counts.proofs.Arrays.{holds_as}
use Rattle.counts.proofs.Once.{count_none, count_le, count_row}
use Rattle.counts.proofs.count.Goals as goal

pub loop-i-init : goal.loop-i-init
loop-i-init c = rw c.count-i.ensures (holds_as (count_none c.args.few.rows.numbers.now) c.requires)

pub overflow_add-counts : goal.overflow_add-counts
overflow_add-counts c =
    let h = c.loop-i.invariant.held c.to.result (omega (arith, c.to.ensures)) in
    omega (arith, h, count_le c.args.few.rows.numbers.now c.loop-i.i c.to.result, c.args.few.few)

pub loop-i-preserved : goal.loop-i-preserved
loop-i-preserved c =
    count_row c.args.few.rows.numbers.now c.loop-i.counts (c.loop-i.i - 1) c.loop-i.i c.to.result (omega arith)
    (omega arith) c.loop-i.invariant c.to.ensures.0 (omega (arith, c.to.ensures))

pub returns : goal.returns
returns c =
    let e : c.loop-i.i ≡ 0 = omega arith in
    rw e at c.loop-i.invariant
