-- Marks that are states, as one pass from the highest state down sets them: a mark is the source of its states.
-- Assumes nothing.
use mathlib.Core.Path.{◌≡◌}
use Prim.Native.Nat.{ℕ, ◌≤◌}
use native.Mathlib.Omega.{arith}
use Rattle.laws.proofs.Members.{In}
use Rattle.paper.specs.Rows.{Table, states}
use Rattle.merging.specs.Marks.{source_of}
use Rattle.merging.proofs.Ends.{highest_is}
use Rattle.merging.proofs.States.{states_ascend}

-- where a mark is a state of its own mark, and no state is above its mark, the mark is the highest state
pub source_is_mark : (t : Table) (mark : ℕ → ℕ) →
    ((a : ℕ) → In a (states t.rows) → In (mark a) (states t.rows) × (mark (mark a) ≡ mark a) × (a ≤ mark a)) →
    (s : ℕ) → In s (states t.rows) → source_of mark t s ≡ mark s
source_is_mark t mark own s i =
    highest_is mark (states t.rows) (states_ascend t.rows) 0 (mark s) (mark s) (record {
      is_in = (own s i).0;
      marked = (own s i).1;
      high = λ y j e. omega (arith, (own y j).2, e);
    })
