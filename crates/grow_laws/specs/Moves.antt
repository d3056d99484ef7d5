-- Four numbers at a time: a row overwritten, rows moved up or down, a row put in. A row is a list of its four numbers.
use Rattle.std.specs.Prelude.{◌≡◌, List, [], ◌∷◌, ◌++◌, ℕ, ◌+◌, ◌-◌, ◌*◌, ◌≤◌, length, get_or, take, drop, ℤ, pos}

-- Row i is the given one.
unfoldable pub over_row : List ℤ → ℕ → List ℤ → List ℤ
over_row l i row = take (i * 4) l ++ (row ++ drop (i * 4 + 4) l)

-- Row j is what row i is.
abbrev pub copied : List ℤ → ℕ → ℕ → List ℤ
copied l i j = over_row l j
    (get_or l (i * 4) (pos 0) ∷ get_or l (i * 4 + 1) (pos 0) ∷ get_or l (i * 4 + 2) (pos 0) ∷ get_or l (i * 4 + 3) (pos 0) ∷ [])

-- Row i + d is what row i is.
abbrev pub up_row : List ℤ → ℕ → ℕ → List ℤ
up_row l d i = copied l i (i + d)

-- The same for four rows, the last first.
abbrev pub up_four : List ℤ → ℕ → ℕ → List ℤ
up_four l d i = up_row (up_row (up_row (up_row l d (i + 3)) d (i + 2)) d (i + 1)) d i

-- The rows from p on, of n, stand d rows higher; what stood in the d rows from p on stands there as well.
unfoldable pub opened : List ℤ → ℕ → ℕ → ℕ → List ℤ
opened l d n p = take (p * 4 + d * 4) l ++ (take (n * 4 - p * 4) (drop (p * 4) l) ++ drop (n * 4 + d * 4) l)

-- The row stands before row p of n.
unfoldable pub inserted : List ℤ → ℕ → ℕ → List ℤ → List ℤ
inserted l n p row = take (p * 4) l ++ (row ++ (take (n * 4 - p * 4) (drop (p * 4) l) ++ drop (n * 4 + 4) l))

-- Rows i to i + 3 are what the rows after them are, the first first.
abbrev pub down_four : List ℤ → ℕ → List ℤ
down_four l i = copied (copied (copied (copied l (i + 1) i) (i + 2) (i + 1)) (i + 3) (i + 2)) (i + 4) (i + 3)

-- Rows 1 to p stand one row lower; row p stands where it stood as well.
unfoldable pub lowered : List ℤ → ℕ → List ℤ
lowered l p = take (p * 4) (drop 4 l) ++ drop (p * 4) l

-- The row stands before row p.
unfoldable pub put_in : List ℤ → ℕ → List ℤ → List ℤ
put_in l p row = take (p * 4) l ++ (row ++ drop (p * 4) l)

-- Where n rows stood the given row stands before row p of them, and there is room for 1,023.
pub record Inserted (old new : List ℤ) (n p : ℕ) (row : List ℤ) : Type 0 where
  pub rows : take (n * 4 + 4) new ≡ put_in (take (n * 4) old) p row
  pub room : 4092 ≤ length new

-- The n rows are as they were, and there is room for 1,023.
pub record Slid (old new : List ℤ) (n : ℕ) : Type 0 where
  pub rows : take (n * 4) new ≡ take (n * 4) old
  pub room : 4092 ≤ length new

-- What a slice that held old holds once new stands at its front.
unfoldable pub front : List ℤ → List ℤ → List ℤ
front new old = new ++ drop (length new) old
