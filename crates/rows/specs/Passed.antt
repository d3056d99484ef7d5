-- What rows that passed the checks are.
use Rattle.std.specs.Prelude.{◌≡◌, true, List, ℤ}
use Rattle.paper.specs.Rows.{rows_in}
use Rattle.paper.specs.Checks.{every, row_fits, rising}

-- The rows of a slice passed 2 and 3.
pub record Passed (ns : List ℤ) : Type 0 where
  pub fits : every row_fits (rows_in ns) ≡ true
  pub rises : rising (rows_in ns) ≡ true
