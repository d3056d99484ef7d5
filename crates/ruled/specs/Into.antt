-- The rows into each state, as one array over the states holds them.
use Rattle.std.specs.Prelude.{Bool, cond, not, ◌&&◌, List, [], ◌∷◌, Option, Some, None, ℕ, suc, eqb, ℤ}
use Rattle.std.proofs.Math.Option.{none}
use Rattle.paper.specs.Rows.{Row, rows_in}
use Rattle.paper.specs.Checks.{any, same_production}
use Rattle.paper.specs.Shrink.{production_of}
use Rattle.counts.specs.Arrays.{Holds}

-- The first row into a state, by its number plus one, where the first row has the number i; 0 if there is none.
unfoldable pub into_from : ℕ → List Row → ℕ → ℕ
into_from i [] s = 0
into_from i (r ∷ rs) s = cond (eqb r.to s) (suc i) (into_from (suc i) rs s)

-- How the array holds the number of a row: plus one, and 0 for no row.
unfoldable pub row_mark : Option ℕ → ℕ
row_mark None = 0
row_mark (Some i) = suc i

-- The first row into each state.
abbrev pub Marked : List ℤ → List ℕ → Type 0
Marked ns into = Holds (into_from 0 (rows_in ns)) into

-- A row leads into a state.
abbrev pub leads : ℕ → Row → Bool
leads s r = eqb r.to s

-- A row's from is not 0 and is no row's to.
abbrev pub hangs : List Row → Row → Bool
hangs rs r = not (eqb r.from 0) && not (any (leads r.from) rs)

-- A row's production is not that of its state.
abbrev pub differs : List Row → Row → Bool
differs rs r = not (same_production r.production (production_of none rs r.to))
