-- The rows into each state counted, and the states seen, as one array over the states holds them.
use Rattle.std.specs.Prelude.{◌≡◌, cond, List, [], ◌∷◌, ℕ, ◌+◌, eqb, get_or, set, ℤ}
use Rattle.paper.specs.Rows.{rows_in}
use Rattle.paper.specs.Checks.{rows_into}
use Rattle.counts.specs.Arrays.{Holds}

-- How many rows lead into each state.
abbrev pub Counted : List ℤ → List ℕ → Type 0
Counted ns counts = Holds (rows_into (rows_in ns)) counts

-- 1 for a number that is in the list, else 0.
unfoldable pub seen_in : List ℕ → ℕ → ℕ
seen_in [] s = 0
seen_in (x ∷ xs) s = cond (eqb x s) 1 (seen_in xs s)

-- State s has been entered: the answer is 1 where it was not before.
pub record Entered (old new : List ℕ) (s r : ℕ) : Type 0 where
  pub holds : new ≡ set old s 1
  pub fresh : r + get_or old s 0 ≡ 1
