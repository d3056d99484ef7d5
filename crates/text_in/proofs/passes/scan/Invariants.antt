-- `text_in::passes::scan` meets its contract. The loop's invariant: the rows from the place on, after the tally so far,
-- make the tally asked for. Assumes nothing.
use Prim.Native.Nat.{◌-◌, ◌≤◌}
use mathlib.Core.Path.{◌≡◌}
use lib.ListN.{length}
use Rattle.text_in.specs.Tally.{tally_from}
use Rattle.text_in.proofs.passes.scan.Given as goal

abbrev pub invariant-loop-row : goal.invariant-loop-row
invariant-loop-row l = record {
  inside : l.place ≤ length l.text;
  few : l.tally.rows ≤ l.place;
  holds : tally_from l.text l.at l.initial.tally ≡ tally_from l.text l.place l.tally;
}

abbrev pub decreases-loop-row : goal.decreases-loop-row
decreases-loop-row l = length l.text - l.place
