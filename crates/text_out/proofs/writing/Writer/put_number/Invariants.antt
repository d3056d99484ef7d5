-- `text_out::writing::Writer::put_number` meets its contract. The loop's invariant: with the i digits still left
-- written, the output is the one asked for. Assumes nothing.
use Prim.Native.Nat.{◌≤◌}
use mathlib.Core.Path.{◌≡◌}
use lib.ListN.{length}
use Rattle.paper.specs.Text.{digits}
use Rattle.text_laws.specs.Put.{put}
use Rattle.text_out.proofs.Digits.{pad}
use Rattle.text_out.proofs.writing.Writer.put_number.Given as goal

abbrev pub invariant-loop-i : goal.invariant-loop-i
invariant-loop-i l = record {
  few : l.count ≤ 5;
  place : l.self.at ≡ l.initial.self.at;
  same : l.self.out.ghost_name ≡ l.initial.self.out.ghost_name;
  long : length l.self.out.now ≡ length l.initial.self.out.now;
  holds : put l.self.out.now l.self.at (pad l.i l.left) ≡ put l.initial.self.out.now l.initial.self.at (digits 5 l.n);
}
