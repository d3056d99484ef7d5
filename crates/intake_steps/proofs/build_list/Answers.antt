-- A list that build takes: its rows are few, and are kept.
use Rattle.intake_lists.proofs.Kept.{built_small, made_few, holds_made}
use Rattle.intake_steps.proofs.build_list.Goals as goal

pub invariant_of-keep : goal.invariant_of-keep
invariant_of-keep c =
    let h = c.in_ok-heading.heading in
    let makes = rw c.told-work at c.in_ok-heading.ensures in
    record { few = made_few _ h.prod0 h.k h.rows h.states _ _ (built_small _ _ _ 16384) makes }

pub returns : goal.returns
returns c =
    let h = c.in_ok-heading.heading in
    let makes = rw c.told-work at c.in_ok-heading.ensures in
    rw c.keep.ensures.heading
    (holds_made _ h.prod0 h.k h.rows h.states _ _ (built_small _ _ _ 16384) makes _ c.keep.ensures.rows)
