-- Rows by their place in a row slice.
use Rattle.std.specs.Prelude.{ℕ, zero, suc, ◌+◌, ◌*◌, ◌≤◌, ◌≡◌, List, get_or, drop, set, ℤ, pos, Some, None}
use Rattle.std.proofs.Math.Option.{Option, none, some}
use Rattle.std.specs.declared.option.Option as rust
use Rattle.paper.specs.declared.Production.{Production}
use Rattle.paper.specs.Rows.{Row, Table, natural, accepting, rows_in, table}

-- What is read is a number of the table; no i32 makes it larger than this.
pub record Reads (value r : ℕ) : Type 0 where
  pub is : r ≡ value
  pub small : r ≤ 2147483648

-- A production as one number: 0 for none, else one more than it.
abbrev pub code : Option ℕ → ℕ
code none = 0
code (some q) = suc q

abbrev pub uncoded : ℕ → Option ℕ
uncoded zero = none
uncoded (suc q) = some q

-- A production of the code, as the definitions have it.
abbrev pub given : rust.Option Production → Option ℕ
given None = none
given (Some q) = some q.0

-- A row of four numbers, the last its production as a table holds it.
abbrev pub row : ℕ → ℕ → ℕ → ℤ → Row
row f t g p = record { from = f; terminal = t; to = g; production = accepting p }

-- The row at place i.
abbrev pub row_at : List ℤ → ℕ → Row
row_at ns i = record {
  from = natural (get_or ns (i * 4) (pos 0));
  terminal = natural (get_or ns (i * 4 + 1) (pos 0));
  to = natural (get_or ns (i * 4 + 2) (pos 0));
  production = accepting (get_or ns (i * 4 + 3) (pos 0));
}

-- A row's from and terminal in one number: within bounds, rows rise as it does.
abbrev pub key : Row → ℕ
key r = r.from * 65536 + r.terminal

-- The rows from place i on.
abbrev pub rest : List ℤ → ℕ → List Row
rest ns i = rows_in (drop (i * 4) ns)

-- A row slice as a table: the checks 3 to 7 look at its rows alone.
abbrev pub bare : List ℤ → Table
bare ns = table (pos 0) 0 ns

-- Four numbers set from a place on.
abbrev pub four : List ℤ → ℕ → ℤ → ℤ → ℤ → ℤ → List ℤ
four ns i a b c d = set (set (set (set ns i a) (i + 1) b) (i + 2) c) (i + 3) d
