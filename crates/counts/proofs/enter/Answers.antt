-- A state that was entered before stays as it was. Assumes nothing.
use Rattle.counts.proofs.Seen.{entered_before}
use Rattle.counts.proofs.enter.Goals as goal

pub returns-then-seen-s-eq1 : goal.returns-then-seen-s-eq1
returns-then-seen-s-eq1 c =
    let a = c.args in
    entered_before a.seen.now a.s c.if-seen-s-eq1.true
