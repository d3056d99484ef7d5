-- What the parts of the report are passed, and what they print.
use Rattle.std.specs.Prelude.{ℕ, ◌≤◌, ◌≡◌, false, List, ◌++◌, length, take, drop, ℤ, Result, Ok, Err}
use Rattle.paper.specs.declared.Mode.{Mode}
use Rattle.paper.specs.declared.Mode.TheVariants.{Archive, Intake}
use Rattle.paper.specs.Rows.{Table, table}
use Rattle.paper.specs.Answers.{Ruling, accept, refuse, then, number, detail, Made}
use Rattle.paper.specs.Checks.{row_slice, range, order}
use Rattle.paper.specs.Shrink.{shrink_table}
use Rattle.paper.specs.Text.{text_in}
use Rattle.paper.specs.Tabrep.{lines_of}
use Rattle.report_lines.specs.declared.sizes.Sizes.{Sizes}
use Rattle.report_lines.specs.declared.sizes.AllSizes.{AllSizes}
use Rattle.report_lines.specs.Printed.{three}
use Rattle.paper.specs.declared.Refusal.{Refusal}

-- A table as text in gives it: a row slice of at most 4,096 rows, with numbers within bounds.
pub record Taken (p : ℤ) (k : ℕ) (ns : List ℤ) : Type 0 where
  pub whole : row_slice ns ≡ false
  pub ranged : range (table p k ns) ≡ false

-- And its rows rise.
pub record Rising (p : ℤ) (k : ℕ) (ns : List ℤ) : Type 0 where
  pub taken : Taken p k ns
  pub ordered : order (table p k ns) ≡ false

-- The sizes of a table that shrink takes, once it is shrunk.
pub record Sized (mode : Mode) (t : Table) (x : Sizes) : Type 0 where
  pub shrunk : Made
  pub ruled : shrink_table mode t ≡ accept shrunk
  pub states : x.states ≡ shrunk.states
  pub rows : x.rows ≡ length shrunk.table.rows

-- Of a table that was read: shrink in both modes, then the lines.
unfoldable pub of_table : Table → Ruling (List ℕ)
of_table t =
    then (shrink_table Archive t) (λ a.
    then (shrink_table Intake t) (λ i.
    accept (lines_of t a i)))

-- The ruling that sizes, or a refusal, state.
abbrev pub told : Result AllSizes Refusal → Ruling (List ℕ)
told (Ok x) = accept (three x.table x.archive x.intake)
told (Err f) = refuse (number f) (detail f)

-- Of a text that is not too long: text in, then its table.
unfoldable pub of_text : List ℕ → Ruling (List ℕ)
of_text input = then (text_in input 16384) of_table

-- What is printed stands at the front of the output, and what follows it is as before.
-- The last two follow from these; they are what a caller's `&out[..r]` asks.
pub record Prints (bytes old new : List ℕ) (r : ℕ) : Type 0 where
  pub count : r ≡ length bytes
  pub holds : new ≡ bytes ++ drop r old
  pub within : r ≤ length new
  pub part : r ≡ length (take r new)
