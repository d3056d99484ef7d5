-- The checks of a ruled table that follow 2 and 3, and tables that passed them.
use Rattle.std.specs.Prelude.{Bool, List, [], ◌∷◌, ℕ, ℤ}
use Rattle.paper.specs.Rows.{Table, table}
use Rattle.row_checks.specs.Verdicts.{Passes, Whole}
use Rattle.paper.specs.Checks.{shape, loose, split, ruled, tree}

-- The checks 4 to 6, after 2 and 3.
abbrev pub beyond : Table → List (Bool × ℕ)
beyond t = (shape t, 4) ∷ (loose t, 5) ∷ (split t, 6) ∷ []

-- A table that passed 1 to 6.
pub record RuledTable (p : ℤ) (k : ℕ) (ns : List ℤ) : Type 0 where
  pub checked : Passes (ruled (table p k ns))
  pub sized : Whole ns

-- A table that passed 1 to 7.
pub record TreeTable (p : ℤ) (k : ℕ) (ns : List ℤ) : Type 0 where
  pub checked : Passes (tree (table p k ns))
  pub sized : Whole ns
