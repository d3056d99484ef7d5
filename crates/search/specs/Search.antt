-- What the search in rows that passed 2 and 3 answers.
use Rattle.std.specs.Prelude.{◌≡◌, List, ℕ, ◌+◌, ◌*◌, ◌/◌, ◌≤◌, ◌<◌, length, ℤ, Result, Ok, Err}
use Rattle.std.proofs.Math.Option.{none, some}
use Rattle.paper.specs.Rows.{rows_in, find, begin, leaving}
use Rattle.rows.specs.Places.{row_at, key}

-- All rows before low are below x, and all from high on are at least x.
pub record Bracket (ns : List ℤ) (x low high : ℕ) : Type 0 where
  pub ordered : low ≤ high
  pub within : high ≤ length ns / 4
  pub below : (j : ℕ) → j < low → key (row_at ns j) < x
  pub above : (j : ℕ) → high ≤ j → j < length ns / 4 → x ≤ key (row_at ns j)

-- All rows before i are below x.
pub record Below (ns : List ℤ) (x i : ℕ) : Type 0 where
  pub row : (j : ℕ) → j < i → key (row_at ns j) < x

-- i is the first row before end whose key is at least x, or end.
pub record Scanned (ns : List ℤ) (end x i : ℕ) : Type 0 where
  pub within : i ≤ end
  pub below : Below ns x i
  pub here : i < end → x ≤ key (row_at ns i)

-- i is the first row whose key is at least x.
pub record Lower (ns : List ℤ) (x i : ℕ) : Type 0 where
  pub within : i ≤ length ns / 4
  pub below : (j : ℕ) → j < i → key (row_at ns j) < x
  pub above : (j : ℕ) → i ≤ j → j < length ns / 4 → x ≤ key (row_at ns j)

-- Row i is the row of the state and the terminal; or there is none, and i is where it would go.
abbrev pub Finds : List ℤ → ℕ → ℕ → Result ℕ ℕ → Type 0
Finds ns s t (Ok i) = (i < length ns / 4) × (find (rows_in ns) s t ≡ some (row_at ns i))
Finds ns s t (Err i) = (find (rows_in ns) s t ≡ none) × Lower ns (s * 65536 + t) i

-- Where the rows of a state begin, or its first would go, and how many they are.
pub record Leaves (ns : List ℤ) (s first count : ℕ) : Type 0 where
  pub begins : first ≡ begin (rows_in ns) s
  pub counts : count ≡ leaving (rows_in ns) s
  pub within : first + count ≤ length ns / 4
