-- Document 01's bounds on lists of strings.
use mathlib.Core.List.{List, Memᴰ}
use Rattle.std.specs.Prelude.{ℕ, ◌≤◌, ◌<◌, length}
use Rattle.paper.specs.Lists.{Opening, all_beginnings, distinct}

-- Strings of at most 16 tokens, each at most 65,535.
pub record Short (σs : List (List ℕ)) : Type 0 where
  pub size : (σ : List ℕ) → Memᴰ σ σs → length σ ≤ 16
  pub token : (σ : List ℕ) → Memᴰ σ σs → (t : ℕ) → Memᴰ t σ → t ≤ 65535

-- A production's list with at least one string and at most 1,024.
pub record Bounded (l : Opening) : Type 0 where
  pub number : l.production ≤ 65535
  pub filled : 0 < length l.strings
  pub count : length l.strings ≤ 1024
  pub short : Short l.strings

-- Demand 3's premise: every list is such a one, and they have at most 1,024 distinct beginnings in all.
pub record Within (ls : List Opening) : Type 0 where
  pub bounded : (l : Opening) → Memᴰ l ls → Bounded l
  pub few : length (distinct (all_beginnings ls)) ≤ 1024
