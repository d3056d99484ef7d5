-- Two tables that unite takes: the result's rows are few, and are kept.
use Rattle.intake_lists.proofs.Kept.{united_small, made_few, holds_made}
use Rattle.intake_steps.proofs.unite_two.Goals as goal

pub invariant_of-keep : goal.invariant_of-keep
invariant_of-keep c =
    let h = c.in_ok-heading.heading in
    let makes = rw c.told-work at c.in_ok-heading.ensures in
    record { few = made_few _ h.prod0 h.k h.rows h.states _ _ (united_small _ _ _ _ _ _ 16384) makes }

pub returns-clause-unites : goal.returns-clause-unites
returns-clause-unites c =
    let h = c.in_ok-heading.heading in
    let makes = rw (c.told-work, c.lent.ensures.prod0, c.lent.ensures.k, c.lent.ensures.rows) at c.in_ok-heading.ensures in
    rw c.keep.ensures.heading
    (holds_made _ h.prod0 h.k h.rows h.states _ _ (united_small _ _ _ _ _ _ 16384) makes _ c.keep.ensures.rows)
