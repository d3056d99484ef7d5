-- Document 01, "Numbers and tables", and module 1: rows.
use Rattle.std.specs.Prelude.{ℕ, zero, suc, ◌&&◌, cond, List, [], ◌∷◌, ℤ, pos, negsuc, eqb, ltb}
use Rattle.std.proofs.Math.Option.{Option, none, some}

-- A row: from, terminal, to, and the production of to (none: -1, not accepting).
pub record Row : Type 0 where
  pub from : ℕ
  pub terminal : ℕ
  pub to : ℕ
  pub production : Option ℕ

-- A table is prod0, k and rows.
pub record Table : Type 0 where
  pub prod0 : Option ℕ
  pub k : ℕ
  pub rows : List Row

-- A number that may not be below 0; below 0 it reads as 65,536, which no bound admits.
abbrev pub natural : ℤ → ℕ
natural (pos n) = n
natural (negsuc n) = 65536

-- A production; -1 is none, and below -1 it reads as 65,536, which no bound admits.
abbrev pub accepting : ℤ → Option ℕ
accepting (pos n) = some n
accepting (negsuc zero) = none
accepting (negsuc (suc n)) = some 65536

-- The way back.
abbrev pub signed : Option ℕ → ℤ
signed none = negsuc 0
signed (some q) = pos q

-- The rows in a list of numbers, four numbers each.
abbrev pub rows_in : List ℤ → List Row
rows_in [] = []
rows_in (f ∷ []) = []
rows_in (f ∷ t ∷ []) = []
rows_in (f ∷ t ∷ g ∷ []) = []
rows_in (f ∷ t ∷ g ∷ p ∷ ns) =
    record { from = natural f; terminal = natural t; to = natural g; production = accepting p } ∷ rows_in ns

-- The numbers of rows.
abbrev pub numbers : List Row → List ℤ
numbers [] = []
numbers (r ∷ rs) =
    pos r.from ∷ pos r.terminal ∷ pos r.to ∷ signed r.production ∷ numbers rs

-- The table of prod0, k and the numbers of a row slice.
abbrev pub table : ℤ → ℕ → List ℤ → Table
table p k ns = record { prod0 = accepting p; k = k; rows = rows_in ns }

-- The row for a state and a terminal.
unfoldable pub find : List Row → ℕ → ℕ → Option Row
find [] s t = none
find (r ∷ rs) s t = cond (eqb r.from s && eqb r.terminal t) (some r) (find rs s t)

-- Where the rows of a state begin, as a row number: after all rows from lower states.
unfoldable pub begin : List Row → ℕ → ℕ
begin [] s = 0
begin (r ∷ rs) s = cond (ltb r.from s) (suc (begin rs s)) (begin rs s)

-- How many rows leave a state.
unfoldable pub leaving : List Row → ℕ → ℕ
leaving [] s = 0
leaving (r ∷ rs) s = cond (eqb r.from s) (suc (leaving rs s)) (leaving rs s)

-- A number put where it belongs in rising numbers, once.
unfoldable pub with_number : ℕ → List ℕ → List ℕ
with_number x [] = x ∷ []
with_number x (y ∷ ys) = cond (ltb x y) (x ∷ y ∷ ys) (cond (eqb x y) (y ∷ ys) (y ∷ with_number x ys))

-- A table's states are 0 and every to.
unfoldable pub states : List Row → List ℕ
states [] = 0 ∷ []
states (r ∷ rs) = with_number r.to (states rs)
