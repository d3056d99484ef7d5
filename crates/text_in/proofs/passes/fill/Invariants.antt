-- `text_in::passes::fill` meets its contract. The loop's invariant: the rows from the place on are ready, and written
-- they make the output asked for. Assumes nothing.
use Prim.Native.Nat.{◌-◌, ◌≤◌}
use mathlib.Core.Path.{◌≡◌}
use lib.ListN.{length}
use Rattle.text_laws.specs.Put.{put}
use Rattle.text_in.specs.Tally.{numbers_from, Ready}
use Rattle.text_in.proofs.passes.fill.Given as goal

abbrev pub invariant-loop-row : goal.invariant-loop-row
invariant-loop-row l = record {
  inside : l.place ≤ length l.text;
  room : l.i ≤ length l.out;
  long : length l.out ≡ length l.initial.out;
  ready : Ready l.text l.place (length l.out - l.i);
  holds : put l.out l.i (numbers_from l.text l.place) ≡ put l.initial.out 0 (numbers_from l.text l.at);
}

abbrev pub decreases-loop-row : goal.decreases-loop-row
decreases-loop-row l = length l.text - l.place
