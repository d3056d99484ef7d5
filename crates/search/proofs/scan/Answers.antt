use mathlib.Core.Path.{◌≡◌}
use native.Mathlib.Omega.{arith}
use Rattle.search.proofs.Bracket.{none_passed, one_passed}
use Rattle.search.proofs.scan.Goals as goal

pub loop-i-init : goal.loop-i-init
loop-i-init c = (omega arith, none_passed _ _)

pub returns-then-x-key : goal.returns-then-x-key
returns-then-x-key c = record { within = omega arith; below = c.loop-i.invariant.1; here = λ h. omega (arith, c.key.ensures) }

pub loop-i-preserved : goal.loop-i-preserved
loop-i-preserved c = (omega arith, one_passed c.loop-i.invariant.1 (omega (arith, c.key.ensures)))

pub returns : goal.returns
returns c =
    let e : c.loop-i.i ≡ c.args.end = omega arith in
    record { within = omega arith; below = rw e at c.loop-i.invariant.1; here = λ h. absurd (omega arith) }
