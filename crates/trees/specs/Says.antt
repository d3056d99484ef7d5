-- What string lists say of each string, and the tables that say the same.
use Rattle.std.specs.Prelude.{ℕ, ◌≡◌, cond, length, take}
use Rattle.std.proofs.Math.Option.{none, some}
use mathlib.Core.List.{List, [], ◌++◌, Memᴰ}
use Rattle.paper.specs.Rows.{Table}
use Rattle.paper.specs.Answers.{Ruling, accept, then, Chosen}
use Rattle.paper.specs.Lists.{Opening, begins_some, stands_under, become, longest, defined}
use Rattle.trees.specs.Reach.{Word, view}

-- Of what begins some string the production that it stands under, if it is one of the strings.
unfoldable pub told : List Opening → List ℕ → Word
told ls σ = cond (begins_some ls σ) (some (stands_under ls σ)) none

-- A table's view says what the lists say.
abbrev pub Says : Table → List Opening → Type 0
Says t ls = (σ : List ℕ) → view t σ ≡ told ls σ

-- p begins σ.
abbrev pub Begins : List ℕ → List ℕ → Type 0
Begins p σ = (b : List ℕ) × (σ ≡ p ++ b)

-- The string σ stands under the production q.
pub record Stands (ls : List Opening) (σ : List ℕ) (q : ℕ) : Type 0 where
  pub list : Opening
  pub listed : Memᴰ list ls
  pub under : list.production ≡ q
  pub string : Memᴰ σ list.strings

-- p begins some string.
pub record Begun (ls : List Opening) (p : List ℕ) : Type 0 where
  pub list : Opening
  pub listed : Memᴰ list ls
  pub string : List ℕ
  pub within : Memᴰ string list.strings
  pub begins : Begins p string

-- What the lists define, with the count of rows entered.
abbrev pub foretold : List Opening → List ℕ → Ruling Chosen
foretold ls tokens = then (defined ls tokens) (λ q. accept (record {
  production = q;
  entered = length (become ls [] (take (longest ls) tokens));
}))
