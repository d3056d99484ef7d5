-- How a ruling is handed over to Rust and C: a number, 0 for an acceptance, and four values.
use Rattle.std.specs.Prelude.{ℕ, zero, suc, ◌≡◌, List, [], ◌∷◌, ◌++◌, length, take, ℤ}
use Rattle.std.specs.Int.{w32}
use Rattle.std.proofs.Common.{to_z, of_z}
use Rattle.paper.specs.declared.Mode.{Mode}
use Rattle.paper.specs.declared.Mode.TheVariants.{Archive, Intake}
use Rattle.paper.specs.Rows.{Table, accepting, table, numbers}
use Rattle.paper.specs.Answers.{Ruling, accept, refuse, output, Made, Chosen}
use Rattle.paper.specs.declared.Heading.{Heading}
use Rattle.paper.specs.declared.Title.{Title}
use Rattle.paper.specs.declared.Prediction.{Prediction}
use Rattle.paper.specs.Checks.{first, row_slice, plain}
use Rattle.paper.specs.Explain.{Stretch}
use Rattle.rows.specs.Places.{code}

-- Mode 0 is archive; any other number is intake.
abbrev pub mode_of : ℕ → Mode
mode_of zero = Archive
mode_of (suc n) = Intake

-- The number that is returned.
abbrev pub returned : {A : Type 0} → Ruling A → ℕ
returned (accept a) = 0
returned (refuse n d) = n

-- The values: of an acceptance its own, of a refusal its detail.
abbrev pub values : {A : Type 0} → (A → List ℕ) → Ruling A → List ℕ
values f (accept a) = f a
values f (refuse n d) = d

-- Four of them; those that are not used are 0.
abbrev pub four : List ℕ → List ℕ
four vs = take 4 (vs ++ (0 ∷ 0 ∷ 0 ∷ 0 ∷ []))

-- A made table: prod0 plus one, k, the row count, the state count.
abbrev pub of_made : Made → List ℕ
of_made m = code m.table.prod0 ∷ m.table.k ∷ length m.table.rows ∷ m.states ∷ []

-- A table that was read: prod0 plus one, k, the row count.
abbrev pub of_read : Table → List ℕ
of_read t = code t.prod0 ∷ t.k ∷ length t.rows ∷ []

-- A prediction: the production, the count of rows entered.
abbrev pub of_chosen : Chosen → List ℕ
of_chosen c = c.production ∷ c.entered ∷ []

-- Explain: the count of matched tokens.
abbrev pub of_count : ℕ → List ℕ
of_count n = n ∷ []

-- Text out and batch: how much was written.
abbrev pub of_written : {E : Type 0} → List E → List ℕ
of_written es = length es ∷ []

-- The same of the values that an answer of the paper holds, as the machine reads its prod0 back.
abbrev pub of_heading : Heading → List ℕ
of_heading h = code (accepting (to_z w32 (of_z w32 h.prod0))) ∷ h.k ∷ h.rows ∷ h.states ∷ []

-- And of a table that was read.
abbrev pub of_title : Title → List ℕ
of_title h = code (accepting (to_z w32 (of_z w32 h.prod0))) ∷ h.k ∷ h.rows ∷ []

-- And of a prediction.
abbrev pub of_prediction : Prediction → List ℕ
of_prediction p = p.production.0 ∷ p.entered ∷ []

-- A ruling is handed over: a number, and four values.
pub record Hands {A : Type 0} (ruling : Ruling A) (f : A → List ℕ) (number : ℕ) (answer : List ℕ) : Type 0 where
  pub says : number ≡ returned ruling
  pub holds : answer ≡ four (values f ruling)

-- That, and the output.
pub record Handed {A E : Type 0} (f : A → List ℕ) (written : A → List E) (ruling : Ruling A) (old new : List E)
    (number : ℕ) (answer : List ℕ) : Type 0 where
  pub hands : Hands ruling f number answer
  pub holds : new ≡ output written ruling old

-- Build, unite, shrink and intake.
abbrev pub HandedTable : Ruling Made → List ℤ → List ℤ → ℕ → List ℕ → Type 0
HandedTable = Handed of_made (λ m. numbers m.table.rows)

-- Text in.
abbrev pub HandedRead : Ruling Table → List ℤ → List ℤ → ℕ → List ℕ → Type 0
HandedRead = Handed of_read (λ t. numbers t.rows)

-- Text out and batch.
abbrev pub HandedWritten : {E : Type 0} → Ruling (List E) → List E → List E → ℕ → List ℕ → Type 0
HandedWritten = Handed of_written (λ b. b)

-- The checks of predict and explain on the table alone: 1, 2, 3.
abbrev pub table_checked : ℤ → ℕ → List ℤ → Ruling ℕ
table_checked p k ns = first ((row_slice ns, 1) ∷ plain (table p k ns)) (accept 0)

-- The second call of explain: where the stretch begins, and how many numbers it has.
abbrev pub of_stretch : Stretch → List ℕ
of_stretch s = four (s.start ∷ s.count ∷ [])
