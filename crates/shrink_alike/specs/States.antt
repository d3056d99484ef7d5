-- The states of a table, told by a test and bounded from above.
use Rattle.std.specs.Prelude.{◌≡◌, Bool, true, false, ℕ, ◌≤◌, ◌<◌}
use mathlib.Core.List.{List, Memᴰ}
use Rattle.paper.specs.Rows.{Row, Table, states}

-- A test tells whether A holds.
pub record Tells (A : Type 0) (r : Bool) : Type 0 where
  pub yes : r ≡ true → A
  pub no : r ≡ false → A → ⊥

-- s is a state of the table.
abbrev pub State : Table → ℕ → Type 0
State t s = Memᴰ s (states t.rows)

-- No state is at top or above, and 0 is below.
pub record Topped (rs : List Row) (top : ℕ) : Type 0 where
  pub some : 1 ≤ top
  pub few : top ≤ 1024
  pub all : (s : ℕ) → Memᴰ s (states rs) → s < top
