-- A line read piece by piece, each at a place.
use Rattle.std.specs.Prelude.{ℕ, ◌+◌, ◌≤◌, ◌≡◌, Bool, true, false, ◌&&◌, cond, Option, Some, None, List, length, drop, ℤ, pos, negsuc, eqb}
use Rattle.std.proofs.Math.Option as option
use Rattle.paper.specs.Words.{bytes}
use Rattle.paper.specs.Text.{past, in_form, value, digit_count}

-- Whether there is one.
abbrev pub is_some : {A : Type 0} → option.Option A → Bool
is_some option.none = false
is_some (option.some a) = true

-- Whether a word stands at the front.
unfoldable pub starts : List ℕ → List ℕ → Bool
starts w bs = is_some (past w bs)

-- The place after a word that stands at a place.
unfoldable pub past_word : List ℕ → ℕ → List ℕ → Option ℕ
past_word l at w = cond (starts w (drop at l)) (Some (at + length w)) None

-- So many digits at the front, and their number; a count of six stands for six or more.
pub record Counts (bs : List ℕ) (count number : ℕ) : Type 0 where
  pub inside : count ≤ length bs
  pub made : number ≡ value count 0 bs
  pub least : count ≤ digit_count bs
  pub all : count ≤ 5 → count ≡ digit_count bs

-- The number at a place, and the place after it.
unfoldable pub number_at : List ℕ → ℕ → Option (ℕ × ℕ)
number_at l at =
    cond (in_form (drop at l)) (Some (value (digit_count (drop at l)) 0 (drop at l), at + digit_count (drop at l))) None

-- A number read as a production.
abbrev pub as_production : Option (ℕ × ℕ) → Option (ℤ × ℕ)
as_production (Some (v, n)) = Some (pos v, n)
as_production None = None

-- The production at a place, and the place after it.
unfoldable pub production_at : List ℕ → ℕ → Option (ℤ × ℕ)
production_at l at = cond (starts (bytes "-1") (drop at l)) (Some (negsuc 0, at + 2)) (as_production (number_at l at))

-- The number after a word.
unfoldable pub field_at : List ℕ → ℕ → List ℕ → Option (ℕ × ℕ)
field_at l at w = cond (starts w (drop at l)) (number_at l (at + length w)) None

-- The production after a word.
unfoldable pub last_at : List ℕ → ℕ → List ℕ → Option (ℤ × ℕ)
last_at l at w = cond (starts w (drop at l)) (production_at l (at + length w)) None

-- Whether a word stands at a place and ends the line.
unfoldable pub ends_at : List ℕ → ℕ → List ℕ → Bool
ends_at l at w = starts w (drop at l) && eqb (at + length w) (length l)
