use mathlib.Core.Path.{◌≡◌}
use Prim.Native.Nat.{◌≤◌}
use lib.ListN.{length}
use Rattle.grow_laws.specs.Moves.{opened}
use Rattle.grow_moves.proofs.up.open_rows.Given as goal

abbrev pub invariant-loop-i : goal.invariant-loop-i
invariant-loop-i l = (l.p ≤ l.i) × (l.i ≤ l.n) × (length l.buf ≡ length l.initial.buf) × (l.buf ≡ opened l.initial.buf l.d l.n l.i)

abbrev pub decreases-loop-i : goal.decreases-loop-i
decreases-loop-i l = l.i
