-- `row_checks::in_one_pass` meets its contract. The loop's invariant: the rows before i fit, and Risen. Assumes nothing.
use mathlib.Core.Path.{◌≡◌, refl, sym, ap, ◌∙◌}
use mathlib.Core.Bool.{not, false}
use mathlib.Core.Logic.{inl, inr}
use Prim.Native.Nat.{◌+◌, ◌*◌}
use native.Mathlib.Omega.{arith}
use Rattle.paper.specs.declared.Refusal.TheVariants.{Range, Order}
use Rattle.paper.specs.Rows.{rows_in}
use Rattle.paper.specs.Checks.{every, row_fits, order}
use Rattle.rows.specs.Places.{row_at, key, bare}
use Rattle.rows.proofs.Rest.{every_next, every_fails, every_end}
use Rattle.row_checks.proofs.Judged.{refuses, next_check, next_passes, taken, done}
use Rattle.row_checks.proofs.OnePass as pass
use Rattle.row_checks.proofs.in_one_pass.Goals as goal
use Rattle.row_checks.proofs.in_one_pass.Goals.{After-loop-i, then-key-above, else-key-above}

pub loop-i-init : goal.loop-i-init
loop-i-init c = (refl, refl, λ f. refl)

pub returns-then-not-fits_at : goal.returns-then-not-fits_at
returns-then-not-fits_at c =
    let e = sym c.fits_at.ensures ∙ c.if-not-fits_at.true in
    refuses Range refl refl
    (ap not (c.loop-i.invariant.0 ∙ every_fails row_fits c.args.rows.now c.loop-i.i (omega arith) e))

pub overflow_mul-key : goal.overflow_mul-key
overflow_mul-key c = omega (arith, c.from_at.ensures.small)

pub overflow_add-key : goal.overflow_add-key
overflow_add-key c = omega (arith, c.from_at.ensures.small, c.terminal_at.ensures.small)

pub overflow_add-above : goal.overflow_add-above
overflow_add-above c = omega (arith, c.from_at.ensures.small, c.terminal_at.ensures.small)

pub loop-i-preserved : goal.loop-i-preserved
loop-i-preserved c =
    let ns = c.args.rows.now in
    let i = c.loop-i.i in
    let e = sym c.fits_at.ensures ∙ c.if-not-fits_at.false in
    let k : c.from_at.result * 65536 + c.terminal_at.result ≡ key (row_at ns i) =
    omega (arith, c.from_at.ensures.is, c.terminal_at.ensures.is) in (
      c.loop-i.invariant.0 ∙ every_next row_fits ns i (omega arith) e,
      pass.above_next ns i _ k,
      pass.risen_next ns c.loop-i.falls c.if-key-above.falls i _ (omega arith) k
          (elim c.if-key-above.branch [
            | then-key-above w ↦ inl (omega (arith, w.if-key-above.true, c.loop-i.invariant.1), w.falls-is)
            | else-key-above w ↦ inr (omega (arith, w.if-key-above.false, c.loop-i.invariant.1), w.falls-is)
          ])
          c.loop-i.invariant.2,
    )

-- after the loop: 2 passes, and 3 is whether a row fell
last : (c : After-loop-i) → (not (every row_fits (rows_in c.args.rows.now)) ≡ false)
    × (order (bare c.args.rows.now) ≡ c.loop-i.falls)
unfolding order
last c =
    let ns = c.args.rows.now in
    let f = c.loop-i.invariant.0 ∙ every_end row_fits ns c.loop-i.i (omega arith) in
    (ap not f, pass.risen_last ns c.loop-i.falls c.loop-i.i (omega arith) c.loop-i.invariant.2 f)

pub returns-then-falls : goal.returns-then-falls
returns-then-falls c = let h = last c.before in next_check h.0 (refuses Order refl refl (h.1 ∙ c.if-falls.true))

pub returns : goal.returns
returns c = let h = last c.before in taken tt (next_passes h.0 (next_passes (h.1 ∙ c.if-falls.false) done))
