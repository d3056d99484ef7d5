use Rattle.build_string.proofs.Walked.{mark_root}
use Rattle.build_string.proofs.mark.Goals as goal

pub returns-in_default : goal.returns-in_default
returns-in_default c =
    let a = c.args in
    mark_root a.rows.now a.step.state.0 a.production.0 c.requires.0 (rw c.in_default.is at c.requires.1)
