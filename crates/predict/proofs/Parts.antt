-- Predict in its parts: the checks, then 9 and 10, then the walk.
-- Assumes nothing.
use mathlib.Core.Path.{◌≡◌, sym}
use mathlib.Core.List.{List}
use Prim.Native.Nat.{ℕ}
use lib.IntN.{ℤ}
use Rattle.paper.specs.declared.Mode.{Mode}
use Rattle.paper.specs.Rows.{table}
use Rattle.paper.specs.Predict.{predict_table, predict}
use Rattle.std.specs.Prelude.{Result}
use Rattle.paper.specs.declared.Refusal.{Refusal}
use Rattle.row_checks.specs.Verdicts.{Judges, follow, whole}
use Rattle.row_checks.proofs.Judged.{judged}
use Rattle.predict.specs.Checked.{checked}

module _ (mode : Mode) (p : ℤ) (k : ℕ) (ns : List ℤ) (stream : ℕ) (ts : List ℕ) where
  -- after 1: the verdict of 2 and 3, followed by the rest
  pub after_checks : {A : Type 0} (v : Result A Refusal) → Judges (whole p k ns) v
      → follow v (checked mode (table p k ns) stream ts) ≡ predict mode p k ns stream ts
  unfolding predict predict_table checked
  after_checks v j = sym (judged (checked mode (table p k ns) stream ts) j)
