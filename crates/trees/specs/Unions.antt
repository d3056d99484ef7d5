-- What uniting two trees comes to, by what they say of each string.
use Rattle.std.specs.Prelude.{ℕ, suc, ◌≤◌, ◌<◌, ◌≡◌, List, [], ◌∷◌, length}
use Rattle.std.proofs.Math.Option.{some}
use Rattle.paper.specs.declared.Mode.{Mode}
use Rattle.paper.specs.Rows.{Table}
use Rattle.paper.specs.Answers.{Ruling, accept, refuse, Made}
use Rattle.paper.specs.Unite.{united_k}
use Rattle.trees.specs.Reach.{Word, view}
use Rattle.trees.specs.Views.{join, seen}
use Rattle.trees.specs.Trees.{Treed}

-- The second table as unite sees it: in archive its state 0 does not count.
abbrev pub as_seen : Mode → Table → Table → Table
as_seen mode A B = record { prod0 = seen mode A.prod0 B.prod0; k = B.k; rows = B.rows }

-- No string is claimed under different productions.
abbrev pub Agreed : (List ℕ → Word) → (List ℕ → Word) → Type 0
Agreed D E = (σ : List ℕ) (p q : ℕ) → D σ ≡ some (some p) → E σ ≡ some (some q) → p ≡ q

-- T is a tree that says what A and B say together, and they agree.
pub record Union (mode : Mode) (A B T : Table) : Type 0 where
  pub treed : Treed T
  pub views : (σ : List ℕ) → view T σ ≡ join mode (view A σ) (view (as_seen mode A B) σ)
  pub agree : Agreed (view A) (view (as_seen mode A B))
  pub longer : T.k ≡ united_k mode A.k B.k

-- A union, or 14 for one with too many states, or 8 for a string that both claim, with the two productions.
pub data Unites (mode : Mode) (A B : Table) : Ruling Made → Type 0 where
  joined : {T : Table} → Union mode A B T → suc (length T.rows) ≤ 1024 →
      Unites mode A B (accept (record { table = T; states = suc (length T.rows) }))
  full : {T : Table} → Union mode A B T → 1024 < suc (length T.rows) → Unites mode A B (refuse 14 [])
  at_odds : {p q : ℕ} (σ : List ℕ) → view A σ ≡ some (some p) → view (as_seen mode A B) σ ≡ some (some q) →
      (p ≡ q → ⊥) → Unites mode A B (refuse 8 (p ∷ q ∷ []))
