use mathlib.Core.Path.{◌≡◌}
use Prim.Native.Nat.{◌+◌}
use lib.ListN.{drop}
use Rattle.paper.specs.Build.{sum}
use Rattle.build_checks.proofs.sums.Given as goal

abbrev pub invariant-loop-n : goal.invariant-loop-n
invariant-loop-n l = sum l.lengths + l.left ≡ l.count + sum (drop l.n-index l.lengths)
