-- The new numbers of classes.
use Rattle.std.specs.Prelude.{◌≡◌, List, ℕ, ◌+◌, ◌<◌, length, get_or, set}
use Rattle.paper.specs.Rows.{Table}
use Rattle.merging.specs.Marks.{source_of, head_of, heads_of, place_among}
use Rattle.shrink_alike.specs.States.{State}
use Rattle.shrink_alike.specs.Faces.{mark_in}

-- The mark of a state is the highest state of its class, below 1,024.
pub record Named (t : Table) (class : List ℕ) : Type 0 where
  pub small : (s : ℕ) → State t s → mark_in class s < 1024
  pub source : (s : ℕ) → State t s → source_of (mark_in class) t s ≡ mark_in class s

-- The mark h got the number m and the next number is r, if it had none; else nothing changed.
pub record Placing (old new : List ℕ) (h m r : ℕ) : Type 0 where
  pub fresh : get_or old h 0 ≡ 65535 → (new ≡ set old h m) × (r ≡ m + 1)
  pub held : (get_or old h 0 ≡ 65535 → ⊥) → (new ≡ old) × (r ≡ m)

-- Each mark has the number that the shrunk table gives to its states.
pub record Placed (t : Table) (class number : List ℕ) : Type 0 where
  pub sized : length number ≡ 1024
  pub placed : (s : ℕ) → State t s
      → get_or number (mark_in class s) 0 ≡ place_among (heads_of (mark_in class) t) (head_of (mark_in class) t s)
