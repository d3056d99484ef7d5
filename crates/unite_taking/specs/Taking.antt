-- One row of the second taken into rows, and all of them: what `take_row` and `take_rows` do to rows alone.
use Rattle.std.specs.Prelude.{◌≡◌, List, [], map, ℕ, suc, ◌*◌, ◌/◌, ◌≤◌, ◌<◌, length, ℤ, Result, Ok, Err}
use Rattle.std.proofs.Math.Option.{Option, none, some}
use Rattle.paper.specs.declared.Mode.{Mode}
use Rattle.paper.specs.declared.State.{State}
use Rattle.paper.specs.declared.Heading.{Heading}
use Rattle.paper.specs.declared.Refusal.{Refusal}
use Rattle.paper.specs.declared.Refusal.TheVariants.{Full}
use Rattle.paper.specs.Rows.{Row}
use Rattle.paper.specs.Answers.{Ruling, accept, refuse, then, number, detail, Made, Makes}
use Rattle.paper.specs.Build.{insert, Standing, within}
use Rattle.paper.specs.Unite.{taken, United, take_rows}
use Rattle.rows.specs.Places.{bare}
use Rattle.rows.specs.Passed.{Passed}
use Rattle.grow.specs.declared.Growing.{Growing}
use Rattle.grow.specs.Seen.{rows_of}
use Rattle.trees.proofs.Paint.{paint}
use Rattle.trees.specs.Trees as trees

-- A table of rows, with which states match.
abbrev pub so_far : Option ℕ → ℕ → List Row → List (ℕ × ℕ) → United
so_far p k rs ms = record { table = record { prod0 = p; k = k; rows = rs }; matches = ms }

-- From the state s by the terminal t into a state with the production q: along the row x, which takes the
-- production, or into a new state.
unfoldable pub taking : Mode → List Row → ℕ → ℕ → Option ℕ → Option Row → Ruling Standing
taking mode rs s t q none = accept (record {
  rows = insert (record { from = s; terminal = t; to = suc (length rs); production = q }) rs;
  state = suc (length rs);
})
taking mode rs s t q (some x) = then (taken mode x.production q) (λ z. accept (record {
  rows = map (paint x.to z) rs;
  state = x.to;
}))

-- The rows and the state that come of it.
pub record Stands (new : Growing) (s : ℕ) (g : Ruling Standing) : Type 0 where
  pub small : s ≤ 1023
  pub is : g ≡ accept (record { rows = rows_of new; state = s })

-- A 1,024th row would come of it.
pub record Over (g : Ruling Standing) : Type 0 where
  pub standing : Standing
  pub is : g ≡ accept standing
  pub over : 1023 < length standing.rows

-- Why it stops: it is refused, or a 1,024th row would come of it.
pub data Stops (g : Ruling Standing) (f : Refusal) : Type 0 where
  refused : g ≡ refuse (number f) (detail f) → Stops g f
  full : f ≡ Full → Over g → Stops g f

-- What came of one row.
abbrev pub Takes : Growing → Ruling Standing → Result State Refusal → Type 0
Takes new g (Ok s) = Stands new s.0 g
Takes new g (Err f) = Stops g f

-- The row is not found.
abbrev pub Adds : Growing → List Row → ℕ → ℕ → Option ℕ → Result State Refusal → Type 0
Adds new rs s t q r = (mode : Mode) → Takes new (taking mode rs s t q none) r

-- The row is found, as x.
abbrev pub Matches : Mode → Growing → List Row → Option ℕ → Row → Result State Refusal → Type 0
Matches mode new rs q x r = (s t : ℕ) → Takes new (taking mode rs s t q (some x)) r

-- All rows of the second, for any prod0 and k: accepted with rows that grew,
abbrev pub all_rows : Mode → List Row → List Row → Option ℕ → ℕ → Ruling United
all_rows mode xs ys p k = take_rows mode (so_far p k xs []) ys

-- with some matches;
pub record Unites (mode : Mode) (xs ys : List Row) (new : Growing) : Type 0 where
  pub matches : List (ℕ × ℕ)
  pub is : (p : Option ℕ) (k : ℕ) → all_rows mode xs ys p k ≡ accept (so_far p k (rows_of new) matches)

-- or refused, by 8 alone,
pub record Clashes (mode : Mode) (xs ys : List Row) (f : Refusal) : Type 0 where
  pub is : (p : Option ℕ) (k : ℕ) → all_rows mode xs ys p k ≡ refuse (number f) (detail f)

-- or, if accepted at all, with a 1,024th row,
pub record Overflows (mode : Mode) (xs ys : List Row) : Type 0 where
  pub is : (p : Option ℕ) (k : ℕ) (u : United) → all_rows mode xs ys p k ≡ accept u → 1023 < length u.table.rows

-- or accepted, whatever comes of it.
pub record Accepts (mode : Mode) (xs ys : List Row) : Type 0 where
  pub is : (p : Option ℕ) (k : ℕ) → (u : United) × (all_rows mode xs ys p k ≡ accept u)

-- Why the rows are not united: they clash, or a 1,024th row would come.
pub data Halts (mode : Mode) (xs ys : List Row) (f : Refusal) : Type 0 where
  clashed : Clashes mode xs ys f → Halts mode xs ys f
  filled : f ≡ Full → Overflows mode xs ys → Halts mode xs ys f

-- The answer of all rows.
abbrev pub UnitedRows : Mode → List Row → List Row → Growing → Result Unit Refusal → Type 0
UnitedRows mode xs ys new (Ok u) = Unites mode xs ys new
UnitedRows mode xs ys new (Err f) = Halts mode xs ys f

-- What is left to do from prod0 and k on: the rows, then 14.
abbrev pub joining : Mode → Option ℕ → ℕ → List Row → List Row → Ruling Made
joining mode p k xs ys = then (all_rows mode xs ys p k) (λ u. within u.table)

-- An answer that leaves the output as it was, whatever prod0, k and the output are.
pub record Refuses (mode : Mode) (xs ys : List Row) (r : Result Heading Refusal) : Type 0 where
  pub is : (p : Option ℕ) (k : ℕ) (old : List ℤ) → Makes (joining mode p k xs ys) r old old

-- The rows of a slice are those of a tree with at most 1,023 rows.
pub record Treed (ns : List ℤ) : Type 0 where
  pub passed : Passed ns
  pub checked : trees.Treed (bare ns)
  pub whole : length ns ≤ 4092
  pub fours : length ns / 4 * 4 ≡ length ns
