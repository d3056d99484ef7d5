-- One step of the walk, and the walk over all tokens.
-- Assumes nothing.
use mathlib.Core.Path.{◌≡◌, refl, sym, ap, ◌∙◌}
use mathlib.Core.Option.{Option, none, some}
use mathlib.Core.List.{List}
use Prim.Native.Nat.{ℕ, suc, ◌+◌, ◌<◌, ◌≤◌}
use native.Mathlib.Omega.{arith}
use native.Mathlib.Numerals.{add-one}
use lib.ListN.{length, get_or, drop, drop_of_length-le}
use lib.Seq.{drop-cons}
use Rattle.paper.specs.Rows.{Row, find}
use Rattle.paper.specs.Predict.{Walk, or_else, go_by, step, walk}
use Rattle.std.specs.Prelude.{Some, None}
use Rattle.std.specs.Option.{option_or}
use Rattle.std.specs.declared.option.Option as rust
use Rattle.paper.specs.declared.Production.{Production}
use Rattle.rows.specs.Places.{given}
use Rattle.walk.specs.Seen.{entering}

-- what `or` gives
pub or_given : (p l : rust.Option Production) → given (option_or p l) ≡ or_else (given p) (given l)
unfolding or_else
or_given None l = refl
or_given (Some q) l = refl

-- along a row: its production if it has one, else what was reached before
pub enters : (w : Walk) (r : Row) (to : ℕ) (l : Option ℕ) → to ≡ r.to → l ≡ or_else r.production w.last
    → ◌≡◌ {A = Walk} (record { state = to; entered = w.entered + 1; last = l }) (entering r w)
unfolding go_by
enters w r to l t e =
    let n : w.entered + 1 ≡ suc w.entered = add-one w.entered in
    λ i. record { state = t i; entered = n i; last = e i }

module _ (rs : List Row) (t : ℕ) (w : Walk) where
  pub steps_in : (r : Row) → find rs w.state t ≡ some r → entering r w ≡ step rs t w
  unfolding step
  steps_in r e = ap (go_by w) (sym e)

  pub steps_by : find rs w.state t ≡ none → w ≡ step rs t w
  unfolding step go_by
  steps_by e = ap (go_by w) (sym e)

by_count : (w : Walk) (o : Option Row) → (go_by w o).entered ≤ w.entered + 1
unfolding go_by
by_count w none = omega arith
by_count w (some r) = omega arith

-- a step enters at most one row
pub step_count : (rs : List Row) (t : ℕ) (w : Walk) → (step rs t w).entered ≤ w.entered + 1
unfolding step
step_count rs t w = by_count w (find rs w.state t)

module _ (rs : List Row) (ts : List ℕ) (i : ℕ) where
  -- one turn of the walk over all tokens, and its end
  pub walk_next : (w v : Walk) → i < length ts → v ≡ step rs (get_or ts i 0) w → walk rs (drop i ts) w ≡ walk rs
      (drop (i + 1) ts) v
  unfolding walk
  walk_next w v h e =
      ap (λ (l : List ℕ). walk rs l w) (drop-cons ts i 0 h)
      ∙ ap (walk rs (drop (suc i) ts)) (sym e) ∙ rw add-one

  pub walk_end : (w : Walk) → length ts ≤ i → walk rs (drop i ts) w ≡ w
  unfolding walk
  walk_end w h = ap (λ (l : List ℕ). walk rs l w) (drop_of_length-le ts h)
