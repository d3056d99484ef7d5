use mathlib.Core.Path.{sym, ◌∙◌}
use native.Mathlib.Omega.{arith}
use Rattle.shrink_slots.proofs.Walked.{slot_small}
use Rattle.shrink_slots.proofs.Slotted.{walk_near, walk_next}
use Rattle.shrink_slots.proofs.Slots.find.Goals as goal

pub passes-requires : goal.passes-requires
passes-requires c = (c.requires.0, omega (arith, c.loop-at.invariant.stands, slot_small c.args.g c.loop-at.d))

pub slot-at-requires-in-loop-at : goal.slot-at-requires-in-loop-at
slot-at-requires-in-loop-at c = (
  c.requires.1,
  omega (arith, walk_near c.loop-at.invariant (sym c.passes.ensures ∙ c.loop-at-test.true) c.args.self.now.open),
)

pub loop-at-preserved : goal.loop-at-preserved
loop-at-preserved c =
    walk_next c.loop-at.invariant (sym c.passes.ensures ∙ c.loop-at-test.true) c.slot-at-in-loop-at.result
    c.args.self.now.open c.slot-at-in-loop-at.ensures

pub returns-clause-within : goal.returns-clause-within
returns-clause-within c = omega (arith, c.loop-at.invariant.stands, slot_small c.args.g c.loop-at.d)
