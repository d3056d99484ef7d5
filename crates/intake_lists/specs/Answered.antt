-- Demand 3 of an answer of the call and the output that it leaves.
use Rattle.std.specs.Prelude.{ℕ, ◌*◌, ◌≤◌, ◌<◌, ◌≡◌, length, take, ℤ, Result, Ok, Err}
use mathlib.Core.List.{List, Memᴰ}
use Rattle.paper.specs.declared.Mode.TheVariants.{Intake}
use Rattle.paper.specs.declared.Production.{Production}
use Rattle.paper.specs.declared.Refusal.TheVariants as refusal
use Rattle.paper.specs.declared.Refusal.{Refusal}
use Rattle.paper.specs.declared.Heading.{Heading}
use Rattle.paper.specs.Rows.{accepting, rows_in, states}
use Rattle.paper.specs.Shrink.{production_of, rows_of}
use Rattle.paper.specs.Predict.{predict}
use Rattle.paper.specs.Lists.{Opening, longest}
use Rattle.merging.specs.Reach.{Reached}
use Rattle.trees.specs.Says.{Stands, foretold}
use Rattle.trees.specs.Chain.{Conflict}

-- A table's rows: no string stands under two numbers, the states are the numbers below n, each is reached, no two of
-- them are alike, and on any k or more tokens, in a stream whose own k is no smaller, intake predict gives what the
-- lists define.
pub record Serves (ls : List Opening) (p : ℤ) (k : ℕ) (rows : List ℤ) (n : ℕ) : Type 0 where
  pub one_number : (σ : List ℕ) (p q : ℕ) → Stands ls σ p → Stands ls σ q → p ≡ q
  pub longest_k : k ≡ longest ls
  -- each state of the table is below n,
  pub counted : (i : ℕ) → Memᴰ i (states (rows_in rows)) → i < n
  -- and each number below n is a state, since it is reached;
  pub reached : (i : ℕ) → i < n → Reached (rows_in rows) i
  -- no two of them are alike, over all numbers below n
  pub unlike : (i j : ℕ) → i < n → j < n →
      production_of (accepting p) (rows_in rows) i ≡ production_of (accepting p) (rows_in rows) j →
      rows_of (rows_in rows) i ≡ rows_of (rows_in rows) j → i ≡ j
  pub predicts : (stream : ℕ) (tokens : List ℕ) → longest ls ≤ stream → longest ls ≤ length tokens →
      predict Intake p k rows stream tokens ≡ foretold ls tokens

-- Such a table at the front of the output, or the refusal 8 of a string that stands under two numbers, and the output
-- as it was.
pub data Answered (ls : List Opening) (old new : List ℤ) : Result Heading Refusal → Type 0 where
  served : {p : ℤ} {k n s : ℕ} → Serves ls p k (take (n * 4) new) s → Answered ls old new (Ok (record { prod0 = p; k = k; rows = n; states = s }))
  clashed : {p q : Production} → Conflict ls p.0 q.0 → new ≡ old →
      Answered ls old new (Err (refusal.Clash p q))
