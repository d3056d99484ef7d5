-- What two states that become one have in common: production and, where rows count, rows by their marks.
use Rattle.std.specs.Prelude.{Bool, cond, ◌&&◌, List, [], ◌∷◌, ℕ, ◌+◌, ◌*◌, ◌%◌, eqb, get_or, ℤ}
use Rattle.std.proofs.Math.Option.{Option}
use Rattle.paper.specs.declared.Mode.{Mode}
use Rattle.paper.specs.Rows.{Table, rows_in}
use Rattle.paper.specs.Checks.{same_production}
use Rattle.paper.specs.Shrink.{production_of, rows_of, redirect, same_rows}
use Rattle.rows.specs.Places.{code, row_at}
use Rattle.merging.specs.Marks.{compared}

-- The table of a prod0 and the numbers of a row slice.
abbrev pub coded : Option ℕ → List ℤ → Table
coded p ns = record { prod0 = p; k = 0; rows = rows_in ns }

-- The marks that an array holds.
abbrev pub mark_in : List ℕ → ℕ → ℕ
mark_in class s = get_or class s 0

-- A state's production.
abbrev pub production_at : Table → ℕ → Option ℕ
production_at t s = production_of t.prod0 t.rows s

-- A state's rows by marks, where they count; else none.
unfoldable pub counted : Mode → Table → (ℕ → ℕ) → ℕ → List (ℕ × ℕ)
counted mode t mark s = cond (compared mode (production_at t s)) (redirect mark (rows_of t.rows s)) []

-- Equal productions, and equal rows where they count.
unfoldable pub like : Mode → Table → (ℕ → ℕ) → ℕ → ℕ → Bool
like mode t mark a b =
    same_production (production_at t a) (production_at t b)
    && same_rows (counted mode t mark a) (counted mode t mark b)

-- A number below 65,521 of rows, after a number that stands before them.
unfoldable pub hash : ℕ → List (ℕ × ℕ) → ℕ
hash h [] = h
hash h (o ∷ os) = hash ((h * 27191 + o.0 * 40493 + o.1) % 65521) os

-- The number of a state: equal for states that become one.
unfoldable pub sign : Mode → Table → (ℕ → ℕ) → ℕ → ℕ
sign mode t mark s = hash (code (production_at t s) % 65521) (counted mode t mark s)

-- Rows i and j have one terminal and lead to one mark.
unfoldable pub same_row : List ℤ → (ℕ → ℕ) → ℕ → ℕ → Bool
same_row ns mark i j =
    eqb (row_at ns i).terminal (row_at ns j).terminal && eqb (mark (row_at ns i).to) (mark (row_at ns j).to)

-- Two states have equal rows by marks.
abbrev pub rows_alike : List ℤ → (ℕ → ℕ) → ℕ → ℕ → Bool
rows_alike ns mark a b =
    same_rows (redirect mark (rows_of (rows_in ns) a)) (redirect mark (rows_of (rows_in ns) b))
