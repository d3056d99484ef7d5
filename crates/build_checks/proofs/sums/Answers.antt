use native.Mathlib.Omega.{arith}
use Rattle.build_checks.proofs.Totals.{sum_next, too_much, all_summed}
use Rattle.build_checks.proofs.sums.Goals as goal

pub returns-then-left-n : goal.returns-then-left-n
returns-then-left-n c =
    let a = c.args in
    too_much a.lengths.now a.count c.loop-n.left c.loop-n.n-index c.loop-n.invariant (omega arith) c.if-left-n.true

pub loop-n-preserved : goal.loop-n-preserved
loop-n-preserved c = omega (arith, c.loop-n.invariant, sum_next c.args.lengths.now c.loop-n.n-index (omega arith))

pub returns : goal.returns
returns c =
    let a = c.args in
    all_summed a.lengths.now a.count c.loop-n.left c.loop-n.n-index c.loop-n.invariant (omega arith)
