-- Document 01, module 5: predict.
use Rattle.std.specs.Prelude.{ℕ, zero, suc, List, [], ◌∷◌, ◌++◌, length, take, ℤ, ltb}
use Rattle.std.proofs.Math.Option.{Option, none, some}
use Rattle.paper.specs.declared.Mode.{Mode}
use Rattle.paper.specs.declared.Mode.TheVariants.{Archive, Intake}
use Rattle.paper.specs.Rows.{Row, Table, table, find}
use Rattle.paper.specs.Answers.{Ruling, accept, refuse, Chosen}
use Rattle.paper.specs.Checks.{first, row_slice, plain}

-- The walk: its state, the count of rows entered, the production of the last accepting row entered.
pub record Walk : Type 0 where
  pub state : ℕ
  pub entered : ℕ
  pub last : Option ℕ

-- The newer one where there is one.
unfoldable pub or_else : Option ℕ → Option ℕ → Option ℕ
or_else none y = y
or_else (some x) y = some x

-- Enter the row if there is one; otherwise stay.
unfoldable pub go_by : Walk → Option Row → Walk
go_by w none = w
go_by w (some r) = record { state = r.to; entered = suc w.entered; last = or_else r.production w.last }

-- One token, and the walk after it.
unfoldable pub step : List Row → ℕ → Walk → Walk
step rs t w = go_by w (find rs w.state t)

-- Every token is tried, also after one that has no row.
unfoldable pub walk : List Row → List ℕ → Walk → Walk
walk rs [] w = w
walk rs (t ∷ ts) w = walk rs ts (step rs t w)

-- The walk before the first token.
unfoldable pub start : Walk
start = record { state = 0; entered = 0; last = none }

-- If no row entered was accepting: prod0 if no row was entered and prod0 ≥ 0; else in intake prod0 if it is ≥ 0;
-- else 11 or, in archive with prod0 ≥ 0, 12.
unfoldable pub fallback : Mode → Option ℕ → ℕ → Ruling Chosen
fallback mode none n = refuse 11 []
fallback Intake (some p) n = accept (record { production = p; entered = n })
fallback Archive (some p) zero = accept (record { production = p; entered = 0 })
fallback Archive (some p) (suc n) = refuse 12 []

-- The answer is the production of the last accepting row entered, and the count of rows entered.
unfoldable pub answer : Mode → Option ℕ → ℕ → Option ℕ → Ruling Chosen
answer mode prod0 n (some q) = accept (record { production = q; entered = n })
answer mode prod0 n none = fallback mode prod0 n

-- The walk over the first k tokens, and its answer.
unfoldable pub chosen : Mode → Table → List ℕ → Ruling Chosen
chosen mode t tokens =
    let w = walk t.rows (take t.k tokens) start in
    answer mode t.prod0 w.entered w.last

-- 2, 3, 9 MISMATCH, 10 SHORT, then 11 or 12.
unfoldable pub predict_table : Mode → Table → ℕ → List ℕ → Ruling Chosen
predict_table mode t stream tokens =
    first (plain t ++ ((ltb stream t.k, 9) ∷ (ltb (length tokens) t.k, 10) ∷ [])) (chosen mode t tokens)

-- Predict: mode, table, the stream's own k, tokens. 1 comes first.
unfoldable pub predict : Mode → ℤ → ℕ → List ℤ → ℕ → List ℕ → Ruling Chosen
predict mode p k ns stream tokens =
    first ((row_slice ns, 1) ∷ []) (predict_table mode (table p k ns) stream tokens)
