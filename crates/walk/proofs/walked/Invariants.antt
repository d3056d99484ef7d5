use mathlib.Core.Path.{◌≡◌}
use Prim.Native.Nat.{◌≤◌}
use lib.ListN.{drop}
use Rattle.paper.specs.Rows.{rows_in}
use Rattle.paper.specs.Predict.{start, walk}
use Rattle.walk.specs.Seen.{seen}
use Rattle.walk.proofs.walked.Given as goal

abbrev pub invariant-loop-token : goal.invariant-loop-token
invariant-loop-token l =
    (l.w.entered ≤ l.token-index)
    × (walk (rows_in l.rows.numbers.now) l.tokens start
    ≡ walk (rows_in l.rows.numbers.now) (drop l.token-index l.tokens) (seen l.w))
