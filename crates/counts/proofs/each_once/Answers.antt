use mathlib.Core.Path.{◌≡◌, refl, sym, ap, ◌∙◌}
use Prim.Native.Nat.{◌+◌, ◌-◌}
use native.Mathlib.Omega.{arith}
use Rattle.paper.specs.Rows.{rows_in}
use Rattle.paper.specs.Checks.{each_once}
use Rattle.counts.proofs.Once.{once_next, once_fails, once_zero}
use Rattle.counts.proofs.each_once.Goals as goal

pub loop-i-init : goal.loop-i-init
loop-i-init c = rw c.count-i.ensures refl

pub returns-then-counts-i-ne1 : goal.returns-then-counts-i-ne1
returns-then-counts-i-ne1 c =
    let i = c.loop-i.i in
    let e : i - 1 + 1 ≡ i = omega arith in
    sym (c.loop-i.invariant ∙ once_fails c.args.rows.numbers.now c.args.counts.now c.requires.1 i (omega arith)
    (omega arith) (rw e at c.if-counts-i-ne1.true))

pub loop-i-preserved : goal.loop-i-preserved
loop-i-preserved c =
    let i = c.loop-i.i in
    let e : i - 1 + 1 ≡ i = omega arith in
    c.loop-i.invariant ∙ once_next c.args.rows.numbers.now c.args.counts.now c.requires.1 i (omega arith)
    (omega arith) (rw e at c.if-counts-i-ne1.false)

pub returns : goal.returns
returns c =
    let rs = rows_in c.args.rows.numbers.now in
    let e : c.loop-i.i ≡ 0 = omega arith in
    sym (c.loop-i.invariant ∙ ap (each_once rs) e ∙ once_zero rs)
