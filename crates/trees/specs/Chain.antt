-- Demand 3 up to shrink: build each list and unite them one after the other, in intake mode, into output slices of
-- 16,384 numbers; and what that comes to.
use Rattle.std.specs.Prelude.{ℕ, suc, ◌≡◌, length, pos}
use mathlib.Core.List.{List, [], ◌∷◌, map, Memᴰ}
use Rattle.paper.specs.declared.Mode.TheVariants.{Intake}
use Rattle.paper.specs.Rows.{signed, numbers}
use Rattle.paper.specs.Answers.{Ruling, accept, refuse, then, Made}
use Rattle.paper.specs.Build.{joined, build}
use Rattle.paper.specs.Unite.{unite}
use Rattle.paper.specs.Predict.{chosen}
use Rattle.paper.specs.Lists.{Opening, longest, all_beginnings, distinct}
use Rattle.trees.specs.Trees.{Sound}
use Rattle.trees.specs.Reach.{view}
use Rattle.trees.specs.Says.{Says, Stands}

-- A list is built.
unfoldable pub build_list : Opening → Ruling Made
build_list l = build (pos l.production) (joined l.strings) (map (λ σ. length σ) l.strings) 16384

-- Two made tables are united.
unfoldable pub unite_made : Made → Made → Ruling Made
unite_made a b = unite Intake
    (signed a.table.prod0) a.table.k (numbers a.table.rows)
    (signed b.table.prod0) b.table.k (numbers b.table.rows) 16384

-- The other lists are built and united one after the other to what there is.
unfoldable pub unite_rest : Made → List Opening → Ruling Made
unite_rest a [] = accept a
unite_rest a (l ∷ ls) = then (build_list l) (λ b. then (unite_made a b) (λ c. unite_rest c ls))

-- The first list is built, and the others are united to it.
unfoldable pub chain : Opening → List Opening → Ruling Made
chain l ls = then (build_list l) (λ a. unite_rest a ls)

-- One string stands under two different production numbers.
pub record Conflict (ls : List Opening) (p q : ℕ) : Type 0 where
  pub string : List ℕ
  pub first : Stands ls string p
  pub second : Stands ls string q
  pub differ : p ≡ q → ⊥

-- No string does, and the table is a tree that says what the lists say.
pub record UnitedLists (ls : List Opening) (m : Made) : Type 0 where
  pub one_number : (σ : List ℕ) (p q : ℕ) → Stands ls σ p → Stands ls σ q → p ≡ q
  pub sound : Sound m.table
  pub counted : m.states ≡ suc (length m.table.rows)
  pub states : m.states ≡ length (distinct (all_beginnings ls))
  pub says : Says m.table ls
  pub longest : m.table.k ≡ longest ls

-- No step is refused but for a clash, and some step is exactly when there is a conflict.
pub data Chained (ls : List Opening) : Ruling Made → Type 0 where
  united : {m : Made} → UnitedLists ls m → Chained ls (accept m)
  clashed : {p q : ℕ} → Conflict ls p q → Chained ls (refuse 8 (p ∷ q ∷ []))

-- The same lists, in any order.
pub record Reordered (ls ls' : List Opening) : Type 0 where
  pub there : (l : Opening) → Memᴰ l ls → Memᴰ l ls'
  pub back : (l : Opening) → Memᴰ l ls' → Memᴰ l ls

-- Two tables that give the same: they say the same of each string, and predict the same.
pub record Same (m m' : Made) : Type 0 where
  pub views : (σ : List ℕ) → view m.table σ ≡ view m'.table σ
  pub longest : m.table.k ≡ m'.table.k
  pub states : m.states ≡ m'.states
  pub predictions : (tokens : List ℕ) → chosen Intake m.table tokens ≡ chosen Intake m'.table tokens

-- Both are refused for a clash, or both give the same.
pub data SameEnd : Ruling Made → Ruling Made → Type 0 where
  both_united : {m m' : Made} → Same m m' → SameEnd (accept m) (accept m')
  both_clashed : {p q p' q' : ℕ} → SameEnd (refuse 8 (p ∷ q ∷ [])) (refuse 8 (p' ∷ q' ∷ []))
