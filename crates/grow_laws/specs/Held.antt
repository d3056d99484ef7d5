-- Rows that stand in an array from a row on: what stands there, and what a new row and a new production make of it.
use Rattle.std.specs.Prelude.{◌≡◌, List, map, ℕ, suc, ◌+◌, ◌*◌, ◌≤◌, ◌<◌, length, take, drop, ℤ, Result, Ok, Err}
use Rattle.std.proofs.Math.Option.{Option, none, some}
use Rattle.paper.specs.Rows.{Row, Table, rows_in, find}
use Rattle.paper.specs.Build.{insert}
use Rattle.rows.specs.Places.{row_at}
use Rattle.rows.specs.Passed.{Passed}
use Rattle.search.specs.Search.{Lower}
use Rattle.trees.proofs.Paint.{paint}

-- The array from row lo on: where the rows of a table that grows stand.
abbrev pub view : List ℤ → ℕ → List ℤ
view buf lo = drop (lo * 4) buf

-- The first n rows.
abbrev pub held : List ℤ → ℕ → List Row
held buf n = rows_in (take (n * 4) buf)

-- Row i of them.
abbrev pub row_held : List ℤ → ℕ → ℕ → Row
row_held buf n i = row_at (take (n * 4) buf) i

-- n rows that rise, each within its bounds, at the front of an array with room for 1,023.
pub record Laid (buf : List ℤ) (n : ℕ) : Type 0 where
  pub few : n ≤ 1023
  pub room : 4092 ≤ length buf
  pub passed : Passed (take (n * 4) buf)

-- The table of these rows.
abbrev pub table_of : Option ℕ → ℕ → List ℤ → ℕ → Table
table_of p k buf n = record { prod0 = p; k = k; rows = held buf n }

-- The search found no row from s by t, and i is where it would go.
pub record Missed (buf : List ℤ) (n i s t : ℕ) : Type 0 where
  pub laid : Laid buf n
  pub from : s ≤ 1023
  pub new : find (held buf n) s t ≡ none
  pub place : Lower (take (n * 4) buf) (s * 65536 + t) i

-- Row i of n is the row from s by t; or there is none, and i is where it would go.
abbrev pub Seeks : List ℤ → ℕ → ℕ → ℕ → Result ℕ ℕ → Type 0
Seeks buf n s t (Ok i) = (i < n) × (find (held buf n) s t ≡ some (row_held buf n i))
Seeks buf n s t (Err i) = Missed buf n i s t

-- The row from s by t to the state after n.
abbrev pub next : ℕ → ℕ → ℕ → Option ℕ → Row
next n s t p = record { from = s; terminal = t; to = suc n; production = p }

-- That row stands at its place, and the rows are the old ones with it inserted.
pub record Added (old new : List ℤ) (n i s t : ℕ) (p : Option ℕ) : Type 0 where
  pub laid : Laid new (suc n)
  pub there : i < suc n
  pub at : row_held new (suc n) i ≡ next n s t p
  pub rows : held new (suc n) ≡ insert (next n s t p) (held old n)

-- The rows with that production in each row into the state.
pub record Given (old new : List ℤ) (n i : ℕ) (p : Option ℕ) : Type 0 where
  pub laid : Laid new n
  pub rows : held new n ≡ map (paint (row_held old n i).to p) (held old n)
