-- What a call is to do, and document 01's number and values for each case of each answer.
use Rattle.std.specs.Prelude.{ℕ, ◌≡◌, List, [], ◌∷◌, ◌++◌, length, drop, ℤ, Result, Ok, Err}
use Rattle.paper.specs.declared.Refusal.{Refusal}
use Rattle.paper.specs.declared.Refusal.TheVariants as refusal
use Rattle.paper.specs.declared.Heading.{Heading}
use Rattle.paper.specs.declared.Title.{Title}
use Rattle.paper.specs.declared.Prediction.{Prediction}
use Rattle.paper.specs.Rows.{Table, signed, numbers}

-- A call accepts, or refuses by a number, with the detail of 8 and 13.
pub data Ruling (A : Type 0) : Type 0 where
  accept : A → Ruling A
  refuse : ℕ → List ℕ → Ruling A

-- What follows an acceptance.
abbrev pub then : {A B : Type 0} → Ruling A → (A → Ruling B) → Ruling B
then (accept a) f = f a
then (refuse n d) f = refuse n d

-- On acceptance what is written stands at the front of the output, and what follows it is as before;
-- a refusal leaves the output as it was.
abbrev pub output : {A E : Type 0} → (A → List E) → Ruling A → List E → List E
output f (accept a) old = f a ++ drop (length (f a)) old
output f (refuse n d) old = old

-- The number of a refusal.
abbrev pub number : Refusal → ℕ
number refusal.Length = 1
number refusal.Range = 2
number refusal.Order = 3
number refusal.Shape = 4
number refusal.Loose = 5
number refusal.Split = 6
number refusal.Tree = 7
number (refusal.Clash p q) = 8
number refusal.Mismatch = 9
number refusal.Short = 10
number refusal.None = 11
number refusal.Root = 12
number (refusal.Text at) = 13
number refusal.Full = 14

-- The detail of a refusal: of 8 the first table's production, then the second's; of 13 the offset.
abbrev pub detail : Refusal → List ℕ
detail refusal.Length = []
detail refusal.Range = []
detail refusal.Order = []
detail refusal.Shape = []
detail refusal.Loose = []
detail refusal.Split = []
detail refusal.Tree = []
detail (refusal.Clash p q) = p.0 ∷ q.0 ∷ []
detail refusal.Mismatch = []
detail refusal.Short = []
detail refusal.None = []
detail refusal.Root = []
detail (refusal.Text at) = at ∷ []
detail refusal.Full = []

-- What a call gives that makes a table: the table and its state count.
pub record Made : Type 0 where
  pub table : Table
  pub states : ℕ

-- What predict gives: the production and the count of rows entered.
pub record Chosen : Type 0 where
  pub production : ℕ
  pub entered : ℕ

-- The ruling that an answer states.
abbrev pub stated : {A : Type 0} → Result A Refusal → Ruling A
stated (Ok a) = accept a
stated (Err r) = refuse (number r) (detail r)

-- Of predict.
abbrev pub predicted : Result Prediction Refusal → Ruling Chosen
predicted (Ok p) = accept (record { production = p.production.0; entered = p.entered })
predicted (Err r) = refuse (number r) (detail r)

-- Build, unite, shrink and intake's call: the answer and the output are what the ruling says.
pub record Makes (ruling : Ruling Made) (answer : Result Heading Refusal) (old new : List ℤ) : Type 0 where
  pub says : stated answer ≡ then ruling (λ m. accept (record {
    prod0 = signed m.table.prod0;
    k = m.table.k;
    rows = length m.table.rows;
    states = m.states;
  }))
  pub holds : new ≡ output (λ m. numbers m.table.rows) ruling old

-- Text in: the answer and the output are what the ruling says.
pub record Reads (ruling : Ruling Table) (answer : Result Title Refusal) (old new : List ℤ) : Type 0 where
  pub says : stated answer ≡ then ruling (λ t. accept (record {
    prod0 = signed t.prod0;
    k = t.k;
    rows = length t.rows;
  }))
  pub holds : new ≡ output (λ t. numbers t.rows) ruling old

-- Text out and batch: the answer and the output are what the ruling says.
pub record Writes {E : Type 0} (ruling : Ruling (List E)) (answer : Result ℕ Refusal) (old new : List E) : Type 0 where
  pub says : stated answer ≡ then ruling (λ b. accept (length b))
  pub holds : new ≡ output (λ b. b) ruling old
