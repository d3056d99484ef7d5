-- A verdict of checks that follow others.
-- Assumes nothing.
use mathlib.Core.Path.{◌≡◌, refl, ap, ◌∙◌}
use mathlib.Core.Bool.{Bool, cond}
use mathlib.Core.List.{List, [], ◌∷◌, ◌++◌}
use Prim.Native.Nat.{ℕ}
use lib.IntN.{ℤ}
use Rattle.paper.specs.declared.Refusal.{Refusal}
use Rattle.paper.specs.Rows.{table}
use Rattle.paper.specs.Answers.{Ruling, accept, refuse}
use Rattle.paper.specs.Checks.{first, shape, loose, split, no_tree}
use Rattle.rows.specs.Places.{bare}
use Rattle.std.specs.Prelude.{Result, Err}
use Rattle.row_checks.specs.Verdicts.{Judges, Passes}
use Rattle.row_checks.proofs.Judged.{judged, passing}
use Rattle.ruled.specs.Beyond.{beyond}

first_append : {A : Type 0} (cs ds : List (Bool × ℕ)) (r : Ruling A) → first (cs ++ ds) r ≡ first cs (first ds r)
first_append [] ds r = refl
first_append (c ∷ cs) ds r = ap (cond c.0 (refuse c.1 [])) (first_append cs ds r)

module _ {cs : List (Bool × ℕ)} (ds : List (Bool × ℕ)) where
  -- a refusal stands, whatever checks follow
  pub judges_stop : {A B : Type 0} (f : Refusal) → Judges {A = A} cs (Err f) → Judges {A = B} (cs ++ ds) (Err f)
  judges_stop {A} {B} f j = record { says = first_append cs ds (accept 0) ∙ judged (first ds (accept 0)) j }

  -- after a pass the checks that follow decide
  pub judges_on : {B : Type 0} {w : Result B Refusal} → Passes cs → Judges ds w → Judges (cs ++ ds) w
  judges_on {B} {w} p k = record { says = first_append cs ds (accept 0) ∙ passing (first ds (accept 0)) p ∙ k.says }

pub passes_on : {cs ds : List (Bool × ℕ)} → Passes cs → Passes ds → Passes (cs ++ ds)
passes_on {cs} {ds} p q =
    record { all = first_append cs ds (accept 0) ∙ passing (first ds (accept 0)) p ∙ q.all }

-- the checks 4 to 7 look at the rows alone
pub beyond_rows : {A : Type 0} (p : ℤ) (k : ℕ) (ns : List ℤ) (v : Result A Refusal) → Judges (beyond (bare ns)) v
    → Judges (beyond (table p k ns)) v
unfolding shape loose split
beyond_rows p k ns v j = record { says = j.says }

pub tree_rows : (p : ℤ) (k : ℕ) (ns : List ℤ) → no_tree (table p k ns) ≡ no_tree (bare ns)
unfolding no_tree
tree_rows p k ns = refl
