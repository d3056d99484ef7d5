-- Two words on one string together.
use Rattle.std.specs.Prelude.{ℕ}
use Rattle.std.proofs.Math.Option.{Option, none, some}
use Rattle.paper.specs.declared.Mode.{Mode}
use Rattle.paper.specs.declared.Mode.TheVariants.{Archive, Intake}
use Rattle.paper.specs.Predict.{or_else}
use Rattle.trees.specs.Reach.{Word}

-- Two productions of one state: archive takes the second's, even none; intake never replaces one by none.
unfoldable pub merge : Mode → Option ℕ → Option ℕ → Option ℕ
merge Archive p q = q
merge Intake p q = or_else q p

-- What begins a string for one of them begins a string.
unfoldable pub join : Mode → Word → Word → Word
join mode none y = y
join mode (some a) none = some a
join mode (some a) (some b) = some (merge mode a b)

-- The second's production of state 0, as far as it counts: archive keeps the first's.
unfoldable pub seen : Mode → Option ℕ → Option ℕ → Option ℕ
seen Archive p q = p
seen Intake p q = q
