use mathlib.Core.Path.{refl, sym, ◌∙◌}
use Prim.Native.Nat.{◌<◌, ◌≤◌}
use native.Mathlib.Omega.{arith}
use borrow.Author.Tests.{le-leb, lt-leb}
use Rattle.paper.specs.Rows.{Row}
use Rattle.paper.specs.Checks.{shape}
use lib.Dec.{leb}
use mathlib.Core.Bool.{Bool}
use Rattle.rows.specs.Places.{row_at}
use Rattle.rows.proofs.Rest.{any_next, any_here, any_end}
use Rattle.row_checks.proofs.shape.Goals as goal

abbrev falls : Row → Bool
falls r = leb r.to r.from

pub loop-i-init : goal.loop-i-init
loop-i-init c = refl

pub returns-then-to_at-from_at : goal.returns-then-to_at-from_at
unfolding shape
returns-then-to_at-from_at c =
    let ns = c.args.rows.now in
    let k : (row_at ns c.loop-i.i).to ≤ (row_at ns c.loop-i.i).from =
    omega (arith, c.to_at.ensures, c.from_at.ensures) in
    sym (c.loop-i.invariant ∙ any_here falls ns c.loop-i.i (omega arith) (le-leb _ _ k))

pub loop-i-preserved : goal.loop-i-preserved
loop-i-preserved c =
    let ns = c.args.rows.now in
    let k : (row_at ns c.loop-i.i).from < (row_at ns c.loop-i.i).to =
    omega (arith, c.to_at.ensures, c.from_at.ensures) in
    c.loop-i.invariant ∙ any_next falls ns c.loop-i.i (omega arith) (lt-leb _ _ k)

pub returns : goal.returns
unfolding shape
returns c = sym (c.loop-i.invariant ∙ any_end falls c.args.rows.now c.loop-i.i (omega arith))
