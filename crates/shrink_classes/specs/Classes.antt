-- States that have their marks: each leads to one that is kept and is like it, and no two that are kept are alike.
use Rattle.std.specs.Prelude.{◌≡◌, ℕ, ◌≤◌, ◌<◌, length, get_or, set}
use mathlib.Core.List.{List, Memᴰ}
use Rattle.paper.specs.declared.Mode.{Mode}
use Rattle.paper.specs.Rows.{Table}
use Rattle.paper.specs.Shrink.{rows_of}
use Rattle.shrink_alike.specs.States.{State}
use Rattle.shrink_alike.specs.Faces.{mark_in, production_at, counted, like, sign}
use Rattle.shrink_slots.specs.Slots.{empty_in, Stops, Stands}

-- Equal productions, and equal rows where they count.
pub record Like (mode : Mode) (t : Table) (mark : ℕ → ℕ) (a b : ℕ) : Type 0 where
  pub production : production_at t a ≡ production_at t b
  pub rows : counted mode t mark a ≡ counted mode t mark b

-- The states that are done have their marks.
pub record Settled (mode : Mode) (t : Table) (mark : ℕ → ℕ) (done : ℕ → Type 0) : Type 0 where
  pub closed : (u : ℕ) → done u → (o : ℕ × ℕ) → Memᴰ o (rows_of t.rows u) → done o.1
  pub kept : (u : ℕ) → done u → done (mark u) × (mark (mark u) ≡ mark u)
  pub alike : (u : ℕ) → done u → Like mode t mark u (mark u)
  pub unlike : (u v : ℕ) → done u → done v → mark u ≡ u → mark v ≡ v → Like mode t mark u v → u ≡ v

-- From state s on, for a pass down the states.
abbrev pub From : Table → ℕ → ℕ → Type 0
From t s u = (s ≤ u) × State t u

-- The states from s on have their marks, each the highest of its class; the slots hold those that are kept.
pub record Classed (mode : Mode) (t : Table) (slots class : List ℕ) (s : ℕ) : Type 0 where
  pub settled : Settled mode t (mark_in class) (From t s)
  pub highest : (u : ℕ) → From t s u → u ≤ mark_in class u
  pub stand : (u : ℕ) → From t s u → mark_in class u ≡ u → Stands slots (sign mode t (mark_in class) u) u
  pub holders : (i : ℕ) → i < 1024 → (get_or slots i 0 ≡ 65535 → ⊥)
      → From t s (get_or slots i 0) × (mark_in class (get_or slots i 0) ≡ get_or slots i 0)
  pub room : s ≤ empty_in slots
  pub sized : length slots ≡ 1024
  pub classes : length class ≡ 1024

-- State s got its mark: the state in the slot where its walk stops, or itself, put into that slot if it is empty.
pub record Chosen (mode : Mode) (t : Table) (slots class slots' class' : List ℕ) (s : ℕ) : Type 0 where
  pub at : ℕ
  pub found : Stops (like mode t (mark_in class)) slots s (sign mode t (mark_in class) s) at
  pub kept : get_or slots at 0 ≡ 65535 → (class' ≡ set class s s) × (slots' ≡ set slots at s)
  pub joined : (get_or slots at 0 ≡ 65535 → ⊥) → (class' ≡ set class s (get_or slots at 0)) × (slots' ≡ slots)

-- All states have their marks, each the highest of its class.
pub record Classes (mode : Mode) (t : Table) (class : List ℕ) : Type 0 where
  pub settled : Settled mode t (mark_in class) (State t)
  pub highest : (u : ℕ) → State t u → u ≤ mark_in class u
  pub sized : length class ≡ 1024
