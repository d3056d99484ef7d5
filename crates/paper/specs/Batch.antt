-- Request 2 of document 02: prediction for a batch of windows.
use Rattle.std.specs.Prelude.{ℕ, zero, suc, ◌*◌, Bool, not, ◌||◌, List, [], ◌∷◌, ◌++◌, length, take, drop, ℤ, pos, negsuc, eqb, ltb}
use Rattle.paper.specs.declared.Mode.{Mode}
use Rattle.paper.specs.Rows.{table}
use Rattle.paper.specs.Answers.{Ruling, accept, refuse, Chosen}
use Rattle.paper.specs.Checks.{first, row_slice, plain}
use Rattle.paper.specs.Predict.{predict}

-- Minus a number.
unfoldable pub minus : ℕ → ℤ
minus zero = pos 0
minus (suc n) = negsuc n

-- One answer for each window: the production, or minus the refusal number.
unfoldable pub answered : Ruling Chosen → ℤ
answered (accept c) = pos c.production
answered (refuse n d) = minus n

-- The answers of the single calls, in order, over windows of exactly k tokens, one after the other.
unfoldable pub each_window : (List ℕ → Ruling Chosen) → ℕ → ℕ → List ℕ → List ℤ
each_window f k zero tokens = []
each_window f k (suc count) tokens = answered (f (take k tokens)) ∷ each_window f k count (drop k tokens)

-- 1 also for a wrong token count, over 4,096 windows or a short answer slice.
unfoldable pub window_lengths : ℕ → ℕ → ℕ → ℕ → Bool
window_lengths k count tokens room = not (eqb tokens (count * k)) || (ltb 4096 count || ltb room count)

-- Batch: a table, the stream's own k, the count of windows, their tokens, the length of the answer slice.
-- 1, 2, 3 and 9 refuse the whole batch.
unfoldable pub batch : Mode → ℤ → ℕ → List ℤ → ℕ → ℕ → List ℕ → ℕ → Ruling (List ℤ)
batch mode p k ns stream count tokens room =
    first ((row_slice ns || window_lengths k count (length tokens) room, 1) ∷ plain (table p k ns)
    ++ ((ltb stream k, 9) ∷ [])) (accept (each_window (predict mode p k ns stream) k count tokens))
