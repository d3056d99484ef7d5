-- The accepting states of a tree: state 0 if prod0 is no none, and one for each row with a production.
use Rattle.std.specs.Prelude.{ℕ, ◌+◌, ◌≡◌, ◌⊎◌}
use Rattle.std.proofs.Math.Option.{Option, none, some}
use mathlib.Core.List.{List, [], ◌∷◌, Memᴰ}
use Rattle.paper.specs.Rows.{Row, Table}
use Rattle.trees.specs.Reach.{Word, view}

-- One state, if it has a production.
unfoldable pub accepts : Option ℕ → ℕ
accepts none = 0
accepts (some q) = 1

-- The rows with a production: in a tree each state but 0 is the to of one row.
unfoldable pub accepting_rows : List Row → ℕ
accepting_rows [] = 0
accepting_rows (r ∷ rs) = accepts r.production + accepting_rows rs

-- State 0 and the others.
unfoldable pub accepting_states : Table → ℕ
accepting_states t = accepts t.prod0 + accepting_rows t.rows

-- A string is claimed by a view: it has a production.
abbrev pub Claimed : (List ℕ → Word) → List ℕ → Type 0
Claimed D σ = (q : ℕ) × (D σ ≡ some (some q))

-- A string is claimed by one of two tables.
abbrev pub Either : Table → Table → List ℕ → Type 0
Either A B σ = Claimed (view A) σ ⊎ Claimed (view B) σ

-- No element stands twice.
pub data Apart {A : Type 0} : List A → Type 0 where
  apart_nil : Apart []
  apart_cons : {x : A} {xs : List A} → (Memᴰ x xs → ⊥) → Apart xs → Apart (x ∷ xs)

-- The distinct strings that are claimed, listed.
pub record Claims (P : List ℕ → Type 0) (cs : List (List ℕ)) : Type 0 where
  pub once : Apart cs
  pub sound : (σ : List ℕ) → Memᴰ σ cs → P σ
  pub complete : (σ : List ℕ) → P σ → Memᴰ σ cs
