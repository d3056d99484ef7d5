-- Predict for a table that passed its checks.
use Rattle.std.specs.Prelude.{List, [], ◌∷◌, ℕ, ltb, length}
use Rattle.paper.specs.Rows.{Table}
use Rattle.paper.specs.Checks.{first}
use Rattle.paper.specs.declared.Mode.{Mode}
use Rattle.paper.specs.Answers.{Ruling, Chosen}
use Rattle.paper.specs.Predict.{chosen}

-- What is left of predict for such a table: 9, 10, then the walk.
unfoldable pub checked : Mode → Table → ℕ → List ℕ → Ruling Chosen
checked mode t stream tokens =
    first ((ltb stream t.k, 9) ∷ (ltb (length tokens) t.k, 10) ∷ []) (chosen mode t tokens)
