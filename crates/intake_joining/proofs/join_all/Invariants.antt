-- `intake_joining::join_all` meets its contract. The loop's invariant: what there is, joined with the lists that are
-- left, is what there was, joined with all. Assumes nothing.
use mathlib.Core.Path.{◌≡◌}
use lib.ListN.{length}
use Rattle.std.specs.Prelude.{Ok}
use Rattle.paper.specs.Answers.{then}
use Rattle.intake_lists.specs.Call.{join_all}
use Rattle.intake_lists.specs.Held.{held}
use Rattle.intake_lists.specs.Split.{lists_of}
use Rattle.intake_joining.proofs.join_all.Given as goal

abbrev pub invariant-loop-list : goal.invariant-loop-list
invariant-loop-list l = then (held (Ok l.so_far.small.heading) l.so_far.buf) (λ m. join_all m (lists_of l.rest.lent))
    ≡ then (held (Ok l.initial.so_far.small.heading) l.initial.so_far.buf) (λ m. join_all m (lists_of l.lists.lent))

abbrev pub decreases-loop-list : goal.decreases-loop-list
decreases-loop-list l = length l.rest.lent.productions.now
