use Prim.Native.Nat.{◌-◌}
use Rattle.shrink_slots.specs.Slots.{alike_in, Walks}
use Rattle.shrink_slots.proofs.Slots.find.Given as goal

abbrev pub invariant-loop-at : goal.invariant-loop-at
invariant-loop-at l = Walks (alike_in l.self.faces.now l.self.class.now) l.self.held.now l.s l.g l.d l.at

abbrev pub decreases-loop-at : goal.decreases-loop-at
decreases-loop-at l = 1024 - l.d
