-- What a writer's method does to its output.
use Rattle.std.specs.Prelude.{ℕ, ◌+◌, ◌≤◌, ◌≡◌, List, length}
use Rattle.text_laws.specs.Put.{put}
use Rattle.text_out.specs.declared.writing.Writer.{Writer}

-- Bytes were put at the writer's place, within the room that the method asks for, and the place follows them. The
-- output is the same slice.
pub record Adds (old new : Writer) (room : ℕ) (bytes : List ℕ) : Type 0 where
  pub place : new.at ≡ old.at + length bytes
  pub within : new.at ≤ old.at + room
  pub holds : new.out.now ≡ put old.out.now old.at bytes
  pub long : length new.out.now ≡ length old.out.now
  pub same : new.out.ghost_name ≡ old.out.ghost_name
