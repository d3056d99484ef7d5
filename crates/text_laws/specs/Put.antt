-- Writing into a lent slice: what it then holds.
use Rattle.std.specs.Prelude.{ℕ, ◌+◌, ◌≤◌, ◌≡◌, List, ◌++◌, length, take, drop}

-- What a list holds once others stand in it from a place on.
unfoldable pub put : {A : Type 0} → List A → ℕ → List A → List A
put old at new = take at old ++ (new ++ drop (at + length new) old)

-- A function that writes at a place: what the slice holds after it, and the place that follows,
-- which lies within the room that the function asks for.
pub record Puts {A : Type 0} (old : List A) (at room : ℕ) (new now : List A) (next : ℕ) : Type 0 where
  pub place : next ≡ at + length new
  pub within : next ≤ at + room
  pub holds : now ≡ put old at new
