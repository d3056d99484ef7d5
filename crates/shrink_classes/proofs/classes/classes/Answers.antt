use mathlib.Core.Path.{◌≡◌}
use mathlib.Core.Option.{none}
use Prim.Native.Nat.{◌+◌, ◌-◌}
use native.Mathlib.Omega.{arith}
use Rattle.paper.specs.Rows.{rows_in}
use Rattle.rows.specs.Places.{given}
use Rattle.shrink_alike.specs.Tables.{table_of}
use Rattle.shrink_alike.proofs.Bare.{shape_rows}
use Rattle.shrink_alike.proofs.Begins.{filled}
use Rattle.shrink_classes.proofs.Pass.{pass_start, pass_more}
use Rattle.shrink_classes.proofs.classes.classes.Goals as goal

pub loop-s-init : goal.loop-s-init
loop-s-init c =
    let f = c.args.faces.now in
    pass_start f.mode (table_of f) f.top f.topped _ c.args.class.now (filled 65535) c.told-class

pub loop-s-preserved-then-is_state : goal.loop-s-preserved-then-is_state
loop-s-preserved-then-is_state c =
    let f = c.args.faces.now in
    let e : c.loop-s.s ≡ c.loop-s.s - 1 + 1 = omega arith in
    let climbs = shape_rows none (given f.prod0) 0 0 (rows_in f.rows.numbers.now) f.climbs in
    pass_more f.mode (table_of f) climbs f.top f.topped c.loop-s.slots c.loop-s.class _ _ (c.loop-s.s - 1)
    (rw e at c.loop-s.invariant) (c.is_state.ensures.yes c.if-is_state.true) c.settle.ensures
