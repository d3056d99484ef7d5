-- The array holds the states of row i and those after it, and n counts them.
use mathlib.Core.Path.{◌≡◌}
use Prim.Native.Nat.{◌+◌, ◌/◌, ◌≤◌, ◌<◌}
use lib.ListN.{length}
use Rattle.paper.specs.Rows.{states}
use Rattle.rows.specs.Places.{rest}
use Rattle.counts.specs.Arrays.{Holds}
use Rattle.counts.specs.Counts.{seen_in}
use Rattle.counts.proofs.state_count.Given as goal

abbrev pub invariant-loop-i : goal.invariant-loop-i
invariant-loop-i l =
    (0 < l.n) × (l.n + l.i ≤ length l.few.rows.numbers.now / 4 + 1)
    × Holds (seen_in (states (rest l.few.rows.numbers.now l.i))) l.seen
    × (l.n ≡ length (states (rest l.few.rows.numbers.now l.i)))
