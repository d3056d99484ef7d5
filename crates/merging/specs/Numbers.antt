-- Numbers that rise along a list.
use mathlib.Core.List.{List, [], ◌∷◌, Memᴰ}
use Rattle.std.specs.Prelude.{ℕ, ◌<◌}

-- Each number is below all that follow it.
pub data Ascending : List ℕ → Type 0 where
  asc_nil : Ascending []
  asc_cons : {s : ℕ} {ss : List ℕ} → ((x : ℕ) → Memᴰ x ss → s < x) → Ascending ss → Ascending (s ∷ ss)
