-- What a walk into the rows of an array does, token by token, and what its string's production does then.
use Rattle.std.specs.Prelude.{◌≡◌, List, map, ℕ, ◌<◌, length, ℤ, Option, Some, None, Result, Ok, Err}
use Rattle.std.proofs.Math.Option.{some}
use Rattle.paper.specs.declared.Refusal.{Refusal}
use Rattle.paper.specs.declared.Refusal.TheVariants.{Full}
use Rattle.paper.specs.declared.State.{State}
use Rattle.paper.specs.Rows.{find}
use Rattle.paper.specs.Build.{Standing, enter, walk_in}
use Rattle.grow_laws.specs.Held.{row_held}
use Rattle.grow.specs.declared.Growing.{Growing}
use Rattle.grow.specs.Seen.{seen, rows_of}
use Rattle.trees.proofs.Paint.{paint}
use Rattle.build_string.specs.declared.Step.{Step}

-- The row leads into the state; none leads into state 0.
abbrev pub Leads : List ℤ → ℕ → ℕ → Option ℕ → Type 0
Leads buf n s None = s ≡ 0
Leads buf n s (Some i) = (i < n) × ((row_held buf n i).to ≡ s)

-- The rows, and a state.
abbrev pub standing : Growing → ℕ → Standing
standing g s = record { rows = rows_of g; state = s }

-- The rows are those of a walk's end, with its state and the row into it.
pub record Stands (g : Growing) (s : ℕ) (at : Option ℕ) (w : Standing) : Type 0 where
  pub is : standing g s ≡ w
  pub leads : Leads (seen g) g.n s at

-- A walk's end, or a walk that would add a 1,024th row.
abbrev pub Ends : Growing → Standing → Result Step Refusal → Type 0
Ends new w (Ok x) = Stands new x.state.0 x.at w
Ends new w (Err e) = (e ≡ Full) × (1023 < length w.rows)

-- One token.
abbrev pub Enters : Growing → Growing → ℕ → ℕ → Result Step Refusal → Type 0
Enters old new s t r = Ends new (enter (rows_of old) s t (find (rows_of old) s t)) r

-- One string.
abbrev pub Walks : Growing → Growing → List ℕ → Result Step Refusal → Type 0
Walks old new σ r = Ends new (walk_in (standing old 0) σ) r

-- A state gets a production.
pub record Marked (old new : Growing) (s q : ℕ) : Type 0 where
  pub rows : rows_of new ≡ map (paint s (some q)) (rows_of old)

-- One string, and its last state gets the production.
pub record Added (old new : Growing) (s q : ℕ) (σ : List ℕ) : Type 0 where
  pub state : s ≡ (walk_in (standing old 0) σ).state
  pub rows : rows_of new ≡ map (paint s (some q)) (walk_in (standing old 0) σ).rows

-- The string is added, or a 1,024th row would come.
abbrev pub Adds : Growing → Growing → ℕ → List ℕ → Result State Refusal → Type 0
Adds old new q σ (Ok s) = Added old new s.0 q σ
Adds old new q σ (Err e) = (e ≡ Full) × (1023 < length (walk_in (standing old 0) σ).rows)
