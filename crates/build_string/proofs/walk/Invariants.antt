use Rattle.build_string.specs.Steps.{standing}
use Rattle.build_string.proofs.Walked.{Walking}
use Rattle.build_string.proofs.walk.Given as goal

abbrev pub invariant-loop-token : goal.invariant-loop-token
invariant-loop-token l =
    Walking (standing l.initial.rows 0) l.string l.rows l.step.state.0 l.step.at l.token-index
