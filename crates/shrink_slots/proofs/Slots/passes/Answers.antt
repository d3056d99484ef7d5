use mathlib.Core.Path.{refl}
use borrow.Author.Tests.{eq-eqb}
use Rattle.shrink_slots.specs.Slots.{alike_in}
use Rattle.shrink_slots.proofs.Slotted.{passes_empty, passes_held}
use Rattle.shrink_slots.proofs.Slots.passes.Goals as goal

pub returns-then-c : goal.returns-then-c
returns-then-c c =
    let k = c.args.self.now in
    passes_held (alike_in k.faces.now k.class.now) k.held.now c.args.s c.args.at _ c.like.result refl c.if-c.true
    c.like.ensures

pub returns-else-c : goal.returns-else-c
returns-else-c c =
    let k = c.args.self.now in
    rw (eq-eqb _ _ c.if-c.false)
    (passes_empty (alike_in k.faces.now k.class.now) k.held.now c.args.s c.args.at _ refl c.if-c.false)
