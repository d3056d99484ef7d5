use mathlib.Core.Path.{◌≡◌}
use native.Mathlib.Omega.{arith}
use Prim.Native.Nat.{max, ◌+◌, ◌-◌}
use Rattle.std.proofs.Common.{rules}
use Rattle.shrink_alike.proofs.Entered.{below_none, below_more, below_topped}
use Rattle.shrink_alike.proofs.faces.top.Goals as goal

pub loop-i-init : goal.loop-i-init
loop-i-init c = below_none c.args.rows.numbers.now c.count-i.result (omega arith)

pub loop-i-preserved : goal.loop-i-preserved
loop-i-preserved c =
    let m : c.max-top.result ≡ max c.loop-i.top (c.to.result + 1) = search rules in
    below_more c.args.rows.numbers.now (c.loop-i.i - 1) c.loop-i.i c.loop-i.top c.max-top.result (omega arith)
    (omega arith) c.loop-i.invariant (omega (arith, m)) (omega (arith, m, c.loop-i.invariant.few, c.to.ensures))
    (omega (arith, m, c.to.ensures))

pub returns : goal.returns
returns c =
    let e : c.loop-i.i ≡ 0 = omega arith in
    below_topped (rw e at c.loop-i.invariant)
