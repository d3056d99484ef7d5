-- Rows written at the front of an output, and the shrunk table.
use Rattle.std.specs.Prelude.{◌≡◌, List, ◌++◌, map, ℕ, ◌+◌, ◌*◌, length, get_or, take, drop, ℤ}
use Rattle.std.proofs.Math.Option.{Option, none}
use Rattle.paper.specs.declared.Mode.{Mode}
use Rattle.paper.specs.Rows.{Row, Table, numbers, rows_in}
use Rattle.paper.specs.Shrink.{production_of, rows_of}
use Rattle.rows.specs.Places.{row_at}
use Rattle.merging.specs.Marks.{heads_of, marked_rows}
use Rattle.shrink_alike.specs.Faces.{mark_in, coded}
use Rattle.shrink_classes.specs.Classes.{Classes}

-- Row i, from the state that has the new number f.
abbrev pub new_row : List ℤ → List ℕ → List ℕ → ℕ → ℕ → Row
new_row ns class number f i = record {
  from = f;
  terminal = (row_at ns i).terminal;
  to = get_or number (mark_in class (row_at ns i).to) 0;
  production = (row_at ns i).production;
}

-- Rows written from row at on, up to row end: what stands before them and after them is as before.
pub record Written (old new : List ℤ) (at end : ℕ) (xs : List Row) : Type 0 where
  pub ends : end ≡ at + length xs
  pub front : take (end * 4) new ≡ take (at * 4) old ++ numbers xs
  pub back : drop (end * 4) new ≡ drop (end * 4) old
  pub sized : length new ≡ length old

-- A row (terminal, to) from the new number f.
abbrev pub new_pair : (ℕ → ℕ) → List Row → List ℕ → ℕ → ℕ × ℕ → Row
new_pair mark rs number f o = record {
  from = f;
  terminal = o.0;
  to = get_or number (mark o.1) 0;
  production = production_of none rs o.1;
}

-- The rows of state h are written, from the new number f.
abbrev pub Emitted : List ℤ → List ℕ → List ℕ → ℕ → ℕ → List ℤ → List ℤ → ℕ → ℕ → Type 0
Emitted ns class number h f old new at end =
    Written old new at end (map (new_pair (mark_in class) (rows_in ns) number f) (rows_of (rows_in ns) h))

-- The rows of the shrunk table.
abbrev pub all_rows : (ℕ → ℕ) → Table → List Row
all_rows mark t = marked_rows mark t (heads_of mark t) (heads_of mark t)

-- The shrunk table of some marks is written: n rows, and s states.
pub record Wrote (ns : List ℤ) (class : List ℕ) (old new : List ℤ) (n s : ℕ) : Type 0 where
  pub rows : Written old new 0 n (all_rows (mark_in class) (coded none ns))
  pub states : s ≡ length (heads_of (mark_in class) (coded none ns))

-- And the marks are those of shrinking.
pub record Shrunk (mode : Mode) (p0 : Option ℕ) (ns old new : List ℤ) (n s : ℕ) : Type 0 where
  pub class : List ℕ
  pub classes : Classes mode (coded p0 ns) class
  pub wrote : Wrote ns class old new n s
