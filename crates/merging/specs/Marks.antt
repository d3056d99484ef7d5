-- Marks of a table's states, and the shrunk table that they give.
use Rattle.std.specs.Prelude.{◌≡◌, Bool, true, false, cond, ℕ, suc, length, eqb, ltb}
use Rattle.std.proofs.Math.Option.{Option, none, some}
use mathlib.Core.List.{List, [], ◌∷◌, ◌++◌, map, Memᴰ}
use Rattle.paper.specs.declared.Mode.{Mode}
use Rattle.paper.specs.declared.Mode.TheVariants.{Archive, Intake}
use Rattle.paper.specs.Rows.{Row, Table, states}
use Rattle.paper.specs.Answers.{Made}
use Rattle.paper.specs.Shrink.{production_of, rows_of, redirect}

-- The lowest of rising states that has the mark m.
unfoldable pub lowest_of : (ℕ → ℕ) → List ℕ → ℕ → ℕ
lowest_of mark [] m = 0
lowest_of mark (s ∷ ss) m = cond (eqb (mark s) m) s (lowest_of mark ss m)

-- The highest that has it, h standing in until one is met.
unfoldable pub highest_of : (ℕ → ℕ) → ℕ → List ℕ → ℕ → ℕ
highest_of mark h [] m = h
highest_of mark h (s ∷ ss) m = highest_of mark (cond (eqb (mark s) m) s h) ss m

-- Those of some states that are the lowest of their mark among all.
unfoldable pub heads : (ℕ → ℕ) → List ℕ → List ℕ → List ℕ
heads mark all [] = []
heads mark all (s ∷ ss) =
    cond (eqb (lowest_of mark all (mark s)) s) (s ∷ heads mark all ss) (heads mark all ss)

-- How many heads are lower.
unfoldable pub place_among : List ℕ → ℕ → ℕ
place_among [] s = 0
place_among (h ∷ hs) s = cond (ltb h s) (suc (place_among hs s)) (place_among hs s)

-- Of a table's state, its head: the lowest state of its mark.
abbrev pub head_of : (ℕ → ℕ) → Table → ℕ → ℕ
head_of mark t s = lowest_of mark (states t.rows) (mark s)

-- And its source, whose rows the head takes: the highest state of its mark.
abbrev pub source_of : (ℕ → ℕ) → Table → ℕ → ℕ
source_of mark t s = highest_of mark 0 (states t.rows) (mark s)

-- The heads of a table, one for each mark.
abbrev pub heads_of : (ℕ → ℕ) → Table → List ℕ
heads_of mark t = heads mark (states t.rows) (states t.rows)

-- The number that a state gets in the shrunk table.
abbrev pub place_of : (ℕ → ℕ) → Table → ℕ → ℕ
place_of mark t s = place_among (heads_of mark t) (head_of mark t s)

-- A row (terminal, to) from the head s, as the shrunk table has it.
unfoldable pub marked_row : (ℕ → ℕ) → Table → List ℕ → ℕ → ℕ × ℕ → Row
marked_row mark t hs s r = record {
  from = place_among hs s;
  terminal = r.0;
  to = place_among hs (head_of mark t r.1);
  production = production_of t.prod0 t.rows r.1;
}

-- The rows of some heads: each has those of the highest state of its mark.
unfoldable pub marked_rows : (ℕ → ℕ) → Table → List ℕ → List ℕ → List Row
marked_rows mark t hs [] = []
marked_rows mark t hs (s ∷ ss) =
    map (marked_row mark t hs s) (rows_of t.rows (source_of mark t s))
    ++ marked_rows mark t hs ss

-- The table that marks give, and its states: one for each mark.
unfoldable pub marked : (ℕ → ℕ) → Table → Made
marked mark t =
    let hs = heads_of mark t in
    record {
      table = record { prod0 = t.prod0; k = t.k; rows = marked_rows mark t hs hs };
      states = length hs;
    }

-- Whether the rows of a state of this production count: not in archive when it accepts.
unfoldable pub compared : Mode → Option ℕ → Bool
compared Intake p = true
compared Archive none = true
compared Archive (some q) = false

-- Two states that become one: equal production and, where rows count, equal rows by their marks.
pub record Alike (mode : Mode) (t : Table) (mark : ℕ → ℕ) (a b : ℕ) : Type 0 where
  pub production : production_of t.prod0 t.rows a ≡ production_of t.prod0 t.rows b
  pub rows : compared mode (production_of t.prod0 t.rows a) ≡ true →
      redirect mark (rows_of t.rows a) ≡ redirect mark (rows_of t.rows b)

-- Marks: two states have one mark exactly when they become one.
pub record Marks (mode : Mode) (t : Table) (mark : ℕ → ℕ) : Type 0 where
  pub one : (a b : ℕ) → Memᴰ a (states t.rows) → Memᴰ b (states t.rows) →
      mark a ≡ mark b → Alike mode t mark a b
  pub two : (a b : ℕ) → Memᴰ a (states t.rows) → Memᴰ b (states t.rows) →
      Alike mode t mark a b → mark a ≡ mark b

-- Those of some rising numbers that are below s.
unfoldable pub under : List ℕ → ℕ → List ℕ
under [] s = []
under (x ∷ xs) s = cond (ltb x s) (x ∷ under xs s) (under xs s)
