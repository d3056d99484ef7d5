-- One array over the states, and the rows that it is made of.
use Rattle.std.specs.Prelude.{◌≡◌, true, List, ℕ, ◌<◌, ◌≤◌, length, get_or, ℤ}
use Rattle.paper.specs.Rows.{rows_in}
use Rattle.paper.specs.Checks.{every, row_fits}

-- Rows within their bounds, and not too many.
pub record Fitting (ns : List ℤ) : Type 0 where
  pub fits : every row_fits (rows_in ns) ≡ true
  pub few : length ns ≤ 16384

-- The array holds for each state what f says of it.
pub record Holds (f : ℕ → ℕ) (xs : List ℕ) : Type 0 where
  pub sized : length xs ≡ 1024
  pub held : (s : ℕ) → s < 1024 → get_or xs s 0 ≡ f s

-- Nothing is marked.
abbrev pub Clear : List ℕ → Type 0
Clear xs = Holds (λ s. 0) xs
