use native.Mathlib.Omega.{arith}
use Rattle.intake_lists.proofs.Joined.{finish_made}
use Rattle.intake_steps.proofs.finish.Goals as goal

pub returns : goal.returns
returns c =
    let t = c.args.last.now in
    let h = t.small.heading in
    rw c.in_ok-united.was (finish_made h.prod0 h.k h.rows h.states t.buf t.small.few.0 (omega arith) _ _ _ c.requires
    (rw (c.lent.ensures.prod0, c.lent.ensures.k, c.lent.ensures.rows) at c.shrink.ensures))
