-- What a string of tokens reaches in a table, and which states are reached.
use Rattle.std.specs.Prelude.{◌≡◌, List, [], ◌∷◌, ℕ, length}
use Rattle.std.proofs.Math.Option.{Option, none, some}
use Rattle.paper.specs.Rows.{Row, Table, find}
use Rattle.paper.specs.Predict.{walk, start}

-- From a state with the production p along the row of each token: the production of the state reached;
-- none if a token has no row.
unfoldable pub reaches_from : List Row → ℕ → Option ℕ → List ℕ → Option (Option ℕ)
reaches_from rs s p [] = some p
reaches_from rs s p (u ∷ us) = elim (find rs s u) [
  | none ↦ none
  | some r ↦ reaches_from rs r.to r.production us
]

-- From state 0, whose production is prod0.
unfoldable pub reaches : Table → List ℕ → Option (Option ℕ)
reaches t us = reaches_from t.rows 0 t.prod0 us

-- A state is reached: from state 0 some tokens, each of which enters a row, lead to it.
pub record Reached (rs : List Row) (s : ℕ) : Type 0 where
  pub tokens : List ℕ
  pub leads : (walk rs tokens start).state ≡ s
  pub enters : (walk rs tokens start).entered ≡ length tokens
