-- Where a string leads in a table: from state 0 along the rows, one for each token; and what the table says of it.
use Rattle.std.specs.Prelude.{ℕ, List, [], ◌∷◌}
use Rattle.std.proofs.Math.Option.{Option, none, some}
use Rattle.paper.specs.Rows.{Row, Table, find}

-- A state and its production.
pub record Seat : Type 0 where
  pub state : ℕ
  pub production : Option ℕ

-- The row for a state and a terminal.
abbrev pub Finder : Type 0
Finder = ℕ → ℕ → Option Row

-- Where a row leads.
abbrev pub sit : Row → Seat
sit r = record { state = r.to; production = r.production }

-- Where a row leads, if there is one.
unfoldable pub seat_of : Option Row → Option Seat
seat_of none = none
seat_of (some r) = some (sit r)

-- One token further.
unfoldable pub onward : Finder → Option Seat → ℕ → Option Seat
onward f none t = none
onward f (some x) t = seat_of (f x.state t)

-- All tokens further.
unfoldable pub all_onward : Finder → Option Seat → List ℕ → Option Seat
all_onward f o [] = o
all_onward f o (t ∷ ts) = all_onward f (onward f o t) ts

-- Where a string leads; none if a token has no row.
unfoldable pub reach : Table → List ℕ → Option Seat
reach t σ = all_onward (find t.rows) (some (record { state = 0; production = t.prod0 })) σ

-- What is said of a string: none if it is no beginning, else its production, if it has one.
abbrev pub Word : Type 0
Word = Option (Option ℕ)

-- What is said of a string that leads to a state, or nowhere.
unfoldable pub said : Option Seat → Word
said none = none
said (some x) = some x.production

-- A table's view: what it says of each string.
unfoldable pub view : Table → List ℕ → Word
view t σ = said (reach t σ)
