-- `text_out::writing::Writer::put_rows` meets its contract. The loop's invariant: with the rows from i on written, the
-- output is the one asked for. Assumes nothing.
use Prim.Native.Nat.{◌+◌, ◌*◌, ◌≤◌}
use mathlib.Core.Path.{◌≡◌}
use lib.ListN.{length}
use Rattle.paper.specs.Rows.{rows_in}
use Rattle.rows.specs.Places.{rest}
use Rattle.text_laws.specs.Put.{put}
use Rattle.text_laws.specs.Written.{rows_text}
use Rattle.text_out.proofs.writing.Writer.put_rows.Given as goal

abbrev pub invariant-loop-i : goal.invariant-loop-i
invariant-loop-i l = record {
  within : l.self.at ≤ l.initial.self.at + l.i * 36;
  long : length l.self.out.now ≡ length l.initial.self.out.now;
  same : l.self.out.ghost_name ≡ l.initial.self.out.ghost_name;
  place : l.self.at + length (rows_text (rest l.rows l.i))
      ≡ l.initial.self.at + length (rows_text (rows_in l.rows));
  holds : put l.self.out.now l.self.at (rows_text (rest l.rows l.i))
      ≡ put l.initial.self.out.now l.initial.self.at (rows_text (rows_in l.rows));
}
