use mathlib.Core.Path.{◌≡◌}
use Prim.Native.Nat.{◌-◌, ◌≤◌}
use lib.ListN.{length}
use Rattle.grow_laws.specs.Moves.{lowered}
use Rattle.grow_moves.proofs.down.lower_rows.Given as goal

abbrev pub invariant-loop-i : goal.invariant-loop-i
invariant-loop-i l = (l.i ≤ l.p) × (length l.buf ≡ length l.initial.buf) × (l.buf ≡ lowered l.initial.buf l.i)

abbrev pub decreases-loop-i : goal.decreases-loop-i
decreases-loop-i l = l.p - l.i
