-- A table's text, line by line, as its rows are written.
use Rattle.std.specs.Prelude.{ℕ, List, [], ◌∷◌, ◌++◌, ℤ, pos}
use Rattle.paper.specs.Rows.{Row, signed}
use Rattle.paper.specs.Text.{write, head_form, row_form}

-- The head line with its LF.
unfoldable pub head_text : ℤ → ℕ → List ℕ
head_text p k = write head_form (p ∷ pos k ∷ []) ++ (10 ∷ [])

-- A row's numbers, as its line has them.
abbrev pub row_numbers : Row → List ℤ
row_numbers r = pos r.from ∷ pos r.terminal ∷ pos r.to ∷ signed r.production ∷ []

-- A row's line with its LF.
unfoldable pub row_text : Row → List ℕ
row_text r = write row_form (row_numbers r) ++ (10 ∷ [])

-- The lines of rows.
unfoldable pub rows_text : List Row → List ℕ
rows_text [] = []
rows_text (r ∷ rs) = row_text r ++ rows_text rs
