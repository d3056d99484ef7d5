-- Where a state's rows begin, as one array over the states holds it.
use Rattle.std.specs.Prelude.{Bool, cond, ◌&&◌, List, [], ◌∷◌, ℕ, suc, ◌/◌, ◌≤◌, eqb, ltb, length, ℤ}
use Rattle.paper.specs.Rows.{Row, rows_in}
use Rattle.rows.specs.Places.{row_at}
use Rattle.rows.specs.Passed.{Passed}
use Rattle.counts.specs.Arrays.{Holds}
use Rattle.ruled.specs.Into.{Marked}

-- The first row from a state, where the first row has the number i; the end if there is none.
unfoldable pub from_first : ℕ → List Row → ℕ → ℕ
from_first i [] s = i
from_first i (r ∷ rs) s = cond (eqb r.from s) i (from_first (suc i) rs s)

-- Row i is there, and leaves the state.
abbrev pub leaves : List ℤ → ℕ → ℕ → Bool
leaves ns s i = ltb i (length ns / 4) && eqb (row_at ns i).from s

-- Rows that passed 2 and 3, and the first row from each state.
pub record Begun (ns : List ℤ) (first : List ℕ) : Type 0 where
  pub passed : Passed ns
  pub few : length ns ≤ 16384
  pub starts : Holds (from_first 0 (rows_in ns)) first

-- And the first row into each state.
abbrev pub Indexed : List ℤ → List ℕ → List ℕ → Type 0
Indexed ns into first = Begun ns first × Marked ns into

-- The first row into each state, and the first from each.
abbrev pub Starts : List ℤ → List ℕ → List ℕ → Type 0
Starts ns into first = Marked ns into × Holds (from_first 0 (rows_in ns)) first
