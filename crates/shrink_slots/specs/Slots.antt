-- Slots that hold the kept states: each stands on the walk of its number, with no empty slot before it.
use Rattle.std.specs.Prelude.{◌≡◌, Bool, true, false, cond, not, ◌&&◌, List, [], ◌∷◌, ℕ, suc, ◌+◌, ◌*◌, ◌/◌, ◌%◌, ◌<◌, ◌≤◌, eqb, length, get_or}
use Rattle.shrink_alike.specs.declared.faces.Faces.{Faces}
use Rattle.shrink_alike.specs.Faces.{mark_in, like}
use Rattle.shrink_alike.specs.Tables.{table_of}

-- Two states become one by the marks of an array.
abbrev pub alike_in : Faces → List ℕ → ℕ → ℕ → Bool
alike_in f class = like f.mode (table_of f) (mark_in class)

-- The slot after d steps of the walk of the number g; a step is odd, so that the walk meets every slot.
unfoldable pub slot : ℕ → ℕ → ℕ
slot g d = (g + d * (g / 1024 * 2 + 1)) % 1024

-- How many slots are empty: 65,535 is no state.
unfoldable pub empty_in : List ℕ → ℕ
empty_in [] = 0
empty_in (x ∷ xs) = cond (eqb x 65535) (suc (empty_in xs)) (empty_in xs)

-- Each of the 1,024 slots is empty or holds a state, and one is empty.
pub record Open (slots : List ℕ) : Type 0 where
  pub sized : length slots ≡ 1024
  pub small : (i : ℕ) → i < 1024 → (get_or slots i 0 ≡ 65535 → ⊥) → get_or slots i 0 < 1024
  pub room : 1 ≤ empty_in slots

-- A slot holds a state that is not like s.
unfoldable pub passes : (ℕ → ℕ → Bool) → List ℕ → ℕ → ℕ → Bool
passes same slots s at = not (eqb (get_or slots at 0) 65535) && not (same s (get_or slots at 0))

-- The walk of the number g has come d steps, past states that are not like s.
pub record Walks (same : ℕ → ℕ → Bool) (slots : List ℕ) (s g d at : ℕ) : Type 0 where
  pub near : d < 1024
  pub stands : at ≡ slot g d
  pub before : (e : ℕ) → e < d → passes same slots s (slot g e) ≡ true

-- The walk stops at a slot that is empty or holds a state like s.
pub record Stops (same : ℕ → ℕ → Bool) (slots : List ℕ) (s g at : ℕ) : Type 0 where
  pub far : ℕ
  pub walked : Walks same slots s g far at
  pub here : passes same slots s at ≡ false

-- State u stands on the walk of the number g, with no empty slot before it.
pub record Stands (slots : List ℕ) (g u : ℕ) : Type 0 where
  pub far : ℕ
  pub here : get_or slots (slot g far) 0 ≡ u
  pub before : (e : ℕ) → e < far → get_or slots (slot g e) 0 ≡ 65535 → ⊥
