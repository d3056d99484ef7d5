use mathlib.Core.Path.{◌≡◌}
use lib.ListN.{drop}
use Rattle.paper.specs.Rows.{rows_in}
use Rattle.paper.specs.Explain.{stop}
use Rattle.explain.proofs.walked.Given as goal

abbrev pub invariant-loop-i : goal.invariant-loop-i
invariant-loop-i l =
    let rs = rows_in l.rows.numbers.now in
    stop rs 0 0 l.tokens ≡ stop rs l.state.0 l.i (drop l.i l.tokens)
