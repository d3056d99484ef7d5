-- The rows of a text, and what one pass over them learns.
use Rattle.std.specs.Prelude.{ℕ, ◌+◌, ◌≤◌, ◌≡◌, true, ◌&&◌, List, [], ◌∷◌, length, drop, ℤ, leb}
use Rattle.paper.specs.Rows.{Row, rows_in}
use Rattle.paper.specs.Answers.{Ruling, accept, refuse, then}
use Rattle.paper.specs.Checks.{every, row_fits}
use Rattle.paper.specs.Text.{lines, read_rows}
use Rattle.rows.specs.Places.{key, row}
use Rattle.text_in.specs.declared.passes.Tally.{Tally}
use Rattle.text_lines.specs.declared.reading.RowLine.{RowLine}

-- The numbers of the rows from a place on.
unfoldable pub rows_read : List ℕ → ℕ → Ruling (List ℤ)
rows_read t at = read_rows at (lines (drop at t))

-- The row of a line.
abbrev pub read_row : RowLine → Row
read_row l = row l.from l.terminal l.to l.production

-- One row more: the count, whether all rows are within bounds, whether their keys rise, the least key that rises.
unfoldable pub tallied : Tally → Row → Tally
tallied s r = record {
  rows = s.rows + 1;
  fits = s.fits && row_fits r;
  rising = s.rising && leb s.least (key r);
  least = key r + 1;
}

-- All rows, one after the other.
unfoldable pub tally : Tally → List Row → Tally
tally s [] = s
tally s (r ∷ rs) = tally (tallied s r) rs

-- No row yet.
abbrev pub start : Tally
start = record { rows = 0; fits = true; rising = true; least = 0 }

-- What the pass over rows from a place on answers.
unfoldable pub tally_from : List ℕ → ℕ → Tally → Ruling Tally
tally_from t at s = then (rows_read t at) (λ ns. accept (tally s (rows_in ns)))

-- The numbers of the rows from a place on, if all are in form.
abbrev pub taken : Ruling (List ℤ) → List ℤ
taken (accept ns) = ns
taken (refuse n d) = []

-- The same, by the text and the place.
unfoldable pub numbers_from : List ℕ → ℕ → List ℤ
numbers_from t at = taken (rows_read t at)

-- All rows from a place on are in form and within bounds, and there is room for their numbers.
pub record Ready (t : List ℕ) (at room : ℕ) : Type 0 where
  pub formed : rows_read t at ≡ accept (numbers_from t at)
  pub fit : every row_fits (rows_in (numbers_from t at)) ≡ true
  pub few : length (numbers_from t at) ≤ room
