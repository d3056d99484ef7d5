-- `text_out::writing::Writer::put_word` meets its contract. The loop's invariant: the first i bytes of the word stand in
-- the output. Assumes nothing.
use mathlib.Core.Path.{◌≡◌}
use lib.ListN.{length}
use lib.Seq.{paste}
use Rattle.text_out.proofs.writing.Writer.put_word.Given as goal

abbrev pub invariant-loop-i : goal.invariant-loop-i
invariant-loop-i l = record {
  place : l.self.at ≡ l.initial.self.at;
  same : l.self.out.ghost_name ≡ l.initial.self.out.ghost_name;
  long : length l.self.out.now ≡ length l.initial.self.out.now;
  holds : l.self.out.now ≡ paste l.initial.self.out.now l.initial.self.at l.word l.i;
}
