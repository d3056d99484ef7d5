-- The walk to the first token without a row, turn by turn.
-- Assumes nothing.
use mathlib.Core.Path.{◌≡◌, ap, ◌∙◌}
use mathlib.Core.Bool.{true, false}
use mathlib.Core.Option.{Option, none, some}
use mathlib.Core.List.{List}
use Prim.Native.Nat.{ℕ, suc, ◌+◌, ◌<◌, ◌≤◌}
use native.Mathlib.Numerals.{add-one}
use lib.ListN.{length, get_or, drop, drop_of_length-le}
use lib.Seq.{drop-cons}
use Rattle.paper.specs.Rows.{Row, find}
use Rattle.paper.specs.Explain.{Stop, stop}

module _ (rs : List Row) (ts : List ℕ) (s i : ℕ) where
  abbrev by : ℕ → Option Row → Stop
  by n o = elim o [
    | none ↦ record { state = s; matched = n; left_over = true }
    | some r ↦ stop rs r.to (suc n) (drop (suc i) ts)
  ]

  module _ (h : i < length ts) where
    opened : stop rs s i (drop i ts) ≡ by i (find rs s (get_or ts i 0))
    unfolding stop
    opened = ap (stop rs s i) (drop-cons ts i 0 h)

    -- the token has a row, and it has none
    pub stop_on : (r : Row) (to : ℕ) → find rs s (get_or ts i 0) ≡ some r → to ≡ r.to
        → stop rs s i (drop i ts) ≡ stop rs to (i + 1) (drop (i + 1) ts)
    stop_on r to e t = opened ∙ ap (by i) e ∙ rw (t, add-one)

    pub stop_here : find rs s (get_or ts i 0) ≡ none
        → stop rs s i (drop i ts) ≡ record { state = s; matched = i; left_over = true }
    stop_here e = opened ∙ ap (by i) e

  -- every token matched
  pub stop_end : length ts ≤ i → stop rs s i (drop i ts) ≡ record { state = s; matched = i; left_over = false }
  unfolding stop
  stop_end h = ap (stop rs s i) (drop_of_length-le ts h)
