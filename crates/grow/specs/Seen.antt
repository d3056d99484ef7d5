-- The rows of a table that grows.
use Rattle.std.specs.Prelude.{◌≡◌, List, ℕ, ◌+◌, ◌≤◌, ℤ, Result, Ok, Err}
use Rattle.std.proofs.Math.Option.{Option}
use Rattle.paper.specs.declared.State.{State}
use Rattle.paper.specs.declared.Refusal.{Refusal}
use Rattle.paper.specs.declared.Refusal.TheVariants.{Full}
use Rattle.paper.specs.Rows.{Row}
use Rattle.grow_laws.specs.Held.{view, held, Added}
use Rattle.grow.specs.declared.Growing.{Growing}

-- The array from the first row on.
abbrev pub seen : Growing → List ℤ
seen g = view g.spread.buf g.spread.lo

-- The rows.
abbrev pub rows_of : Growing → List Row
rows_of g = held (seen g) g.n

-- The row from s by t is added at its place i, into a new state, which is the answer.
pub record Grown (old new : Growing) (i s t : ℕ) (p : Option ℕ) (to : ℕ) : Type 0 where
  pub added : Added (seen old) (seen new) old.n i s t p
  pub count : new.n ≡ old.n + 1
  pub state : to ≡ old.n + 1

-- The row is added; or there are 1,023 rows, and they stay as they were.
abbrev pub Grows : Growing → Growing → ℕ → ℕ → ℕ → Option ℕ → Result State Refusal → Type 0
Grows old new i s t p (Ok x) = Grown old new i s t p x.0
Grows old new i s t p (Err f) = (f ≡ Full) × (1023 ≤ old.n) × (rows_of new ≡ rows_of old)
