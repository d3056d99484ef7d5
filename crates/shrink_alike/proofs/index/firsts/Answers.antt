use Prim.Native.Nat.{◌-◌, ◌/◌}
use native.Mathlib.Omega.{arith}
use lib.ListN.{length}
use Rattle.counts.proofs.Arrays.{holds_as}
use Rattle.shrink_alike.proofs.Begins.{from_end, first_row}
use Rattle.shrink_alike.proofs.index.firsts.Goals as goal

pub loop-i-init : goal.loop-i-init
loop-i-init c =
    let ns = c.args.few.rows.numbers.now in
    rw c.count-i.ensures (holds_as (λ s. from_end ns (length ns / 4) s (omega arith)) c.requires)

pub loop-i-preserved : goal.loop-i-preserved
loop-i-preserved c =
    first_row c.args.few.rows.numbers.now c.loop-i.first (c.loop-i.i - 1) c.loop-i.i c.from.result (omega arith)
    (omega arith) c.loop-i.invariant c.from.ensures.0 (omega (arith, c.from.ensures))
