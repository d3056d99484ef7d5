-- Demand 3: build each list, unite them one after the other and shrink, all in intake mode and into output slices of
-- 16,384 numbers; and what is promised of that.
use Rattle.std.specs.Prelude.{ℕ, ◌≤◌, ◌<◌, ◌≡◌, length}
use mathlib.Core.List.{List, [], ◌∷◌, Memᴰ}
use Rattle.paper.specs.declared.Mode.TheVariants.{Intake}
use Rattle.paper.specs.Rows.{signed, numbers, states}
use Rattle.paper.specs.Answers.{Ruling, accept, refuse, then, Made}
use Rattle.paper.specs.Shrink.{shrink, production_of, rows_of}
use Rattle.paper.specs.Predict.{predict}
use Rattle.paper.specs.Lists.{Opening, longest}
use Rattle.merging.specs.Reach.{Reached}
use Rattle.trees.specs.Bounds.{Within}
use Rattle.trees.specs.Says.{Stands, foretold}
use Rattle.trees.specs.Chain.{chain, Conflict, Reordered}

-- A made table is shrunk, in intake mode.
unfoldable pub shrink_made : Made → Ruling Made
shrink_made m = shrink Intake (signed m.table.prod0) m.table.k (numbers m.table.rows) 16384

-- All lists are built and united, and the result is shrunk.
unfoldable pub calls : Opening → List Opening → Ruling Made
calls l ls = then (chain l ls) shrink_made

-- The shrunk table: its states are the numbers below the state count, each is reached, no two of them have equal
-- production and equal rows, and on any k or more tokens, in a stream whose own k is no smaller, intake predict gives
-- what the lists define.
pub record Kept (ls : List Opening) (m : Made) : Type 0 where
  pub one_number : (σ : List ℕ) (p q : ℕ) → Stands ls σ p → Stands ls σ q → p ≡ q
  pub longest_k : m.table.k ≡ longest ls
  -- each state of the table is below the state count,
  pub counted : (i : ℕ) → Memᴰ i (states m.table.rows) → i < m.states
  -- and each number below it is a state, since it is reached;
  pub reached : (i : ℕ) → i < m.states → Reached m.table.rows i
  -- no two of them are alike, over all numbers below the state count
  pub unlike : (i j : ℕ) → i < m.states → j < m.states →
      production_of m.table.prod0 m.table.rows i ≡ production_of m.table.prod0 m.table.rows j →
      rows_of m.table.rows i ≡ rows_of m.table.rows j → i ≡ j
  pub predicts : (stream : ℕ) (tokens : List ℕ) → longest ls ≤ stream → longest ls ≤ length tokens →
      predict Intake (signed m.table.prod0) m.table.k (numbers m.table.rows) stream tokens
      ≡ foretold ls tokens

-- No step is refused but for a clash, and some step is, exactly when one string stands under two production numbers.
pub data Demanded (ls : List Opening) : Ruling Made → Type 0 where
  kept : {m : Made} → Kept ls m → Demanded ls (accept m)
  clashed : {p q : ℕ} → Conflict ls p q → Demanded ls (refuse 8 (p ∷ q ∷ []))

-- Two orders of the lists: both are refused for a clash, or both predict the same.
pub data SameAnswers (k : ℕ) : Ruling Made → Ruling Made → Type 0 where
  both_kept : {m m' : Made} →
      ((stream : ℕ) (tokens : List ℕ) → k ≤ stream → k ≤ length tokens →
      predict Intake (signed m.table.prod0) m.table.k (numbers m.table.rows) stream tokens
      ≡ predict Intake (signed m'.table.prod0) m'.table.k (numbers m'.table.rows) stream tokens) →
      SameAnswers k (accept m) (accept m')
  both_clashed : {p q p' q' : ℕ} → SameAnswers k (refuse 8 (p ∷ q ∷ [])) (refuse 8 (p' ∷ q' ∷ []))

-- Demand 3, of one or more lists.
abbrev pub Demand3 : Type 0
Demand3 = (l : Opening) (ls : List Opening) → Within (l ∷ ls) → Demanded (l ∷ ls) (calls l ls)

-- Its second half: in any order.
abbrev pub AnyOrder : Type 0
AnyOrder = (l : Opening) (ls : List Opening) (l' : Opening) (ls' : List Opening) →
    Reordered (l ∷ ls) (l' ∷ ls') → Within (l ∷ ls) →
    SameAnswers (longest (l ∷ ls)) (calls l ls) (calls l' ls')
