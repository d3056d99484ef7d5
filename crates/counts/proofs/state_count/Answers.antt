use mathlib.Core.Path.{◌≡◌, ap, ◌∙◌}
use Prim.Native.Nat.{ℕ, ◌+◌, ◌-◌, ◌*◌, ◌<◌}
use native.Mathlib.Omega.{arith}
use lib.ListN.{length}
use Rattle.paper.specs.Rows.{states}
use Rattle.rows.specs.Places.{rest}
use Rattle.counts.proofs.Arrays.{clear}
use Rattle.counts.proofs.Seen.{see_zero, one_state, seen_le, see_row, see_count}
use Rattle.counts.proofs.state_count.Goals as goal

pub loop-i-init : goal.loop-i-init
loop-i-init c =
    let ns = c.args.few.rows.numbers.now in
    rw c.count-i.ensures (omega arith, omega arith, see_zero ns _ clear, one_state ns)

pub enter-n-requires : goal.enter-n-requires
enter-n-requires c =
    let xs = states (rest c.args.few.rows.numbers.now c.loop-i.i) in
    let b : c.to.result < 1024 = omega (arith, c.to.ensures) in
    (b, omega (arith, c.loop-i.invariant.2.held c.to.result b, seen_le xs c.to.result))

pub loop-i-preserved : goal.loop-i-preserved
loop-i-preserved c =
    let ns = c.args.few.rows.numbers.now in
    let i = c.loop-i.i - 1 in
    let to = c.to.result in
    let new = c.enter-n.new.seen in
    let h = c.loop-i.invariant.2 in
    let q = c.to.ensures.0 in
    let b : to < 1024 = omega (arith, c.to.ensures) in
    let d = c.enter-n.ensures in
    let e : i + 1 ≡ c.loop-i.i = omega arith in
    let k : i * 4 + 3 < length ns = omega arith in (
      omega (arith, d.fresh),
      omega (arith, d.fresh),
      see_row ns i k c.loop-i.seen new c.loop-i.i to c.enter-n.result e h q b d,
      see_count ns i k c.loop-i.seen new c.loop-i.i to c.enter-n.result e h q b d c.loop-i.n c.loop-i.invariant.3,
    )

pub returns : goal.returns
returns c =
    let e : c.loop-i.i ≡ 0 = omega arith in
    c.loop-i.invariant.3 ∙ ap (λ (i : ℕ). length (states (rest c.args.few.rows.numbers.now i))) e
