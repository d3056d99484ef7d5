-- The lengths from a place on and their sum; whether one is over 16.
-- Assumes nothing.
use mathlib.Core.Path.{◌≡◌, refl, ap, sym, ◌∙◌}
use mathlib.Core.Bool.{Bool, false, ◌||◌}
use mathlib.Core.List.{List, [], ◌∷◌}
use Prim.Native.Nat.{ℕ, ◌+◌, ◌<◌, ◌≤◌}
use native.Mathlib.Omega.{arith}
use native.Mathlib.Numerals.{add-one}
use borrow.Author.Tests.{eq-eqb, ne_eqb}
use lib.Dec.{eqb, ltb}
use lib.ListN.{length, get_or, drop, drop_of_length-le}
use lib.Seq.{drop-cons}
use Rattle.laws.proofs.Tests.{Test, same, apart, test}
use Rattle.std.specs.List.{list_any}
use Rattle.paper.specs.Checks.{any}
use Rattle.paper.specs.Build.{sum}

from : (ns : List ℕ) (i : ℕ) → i < length ns → drop i ns ≡ get_or ns i 0 ∷ drop (i + 1) ns
from ns i h = drop-cons ns i 0 h ∙ rw add-one

pub sum_next : (ns : List ℕ) (i : ℕ) → i < length ns → sum (drop i ns) ≡ get_or ns i 0 + sum (drop (i + 1) ns)
unfolding sum
sum_next ns i h = ap sum (from ns i h)

pub sum_end : (ns : List ℕ) (i : ℕ) → length ns ≤ i → sum (drop i ns) ≡ 0
unfolding sum
sum_end ns i h = ap sum (drop_of_length-le ns h)

module _ (ns : List ℕ) (count left i : ℕ) (inv : sum ns + left ≡ count + sum (drop i ns)) where
  pub too_much : i < length ns → left < get_or ns i 0 → false ≡ eqb (sum ns) count
  too_much h l = sym (ne_eqb (sum ns) count (λ e. omega (arith, inv, sum_next ns i h)))

  pub all_summed : length ns ≤ i → eqb left 0 ≡ eqb (sum ns) count
  all_summed h = go (test left 0) (sum_end ns i h)
    where
      go : Test left 0 (eqb left 0) → sum (drop i ns) ≡ 0 → eqb left 0 ≡ eqb (sum ns) count
      go (same k e) z = e ∙ sym (eq-eqb (sum ns) count (omega (arith, inv)))
      go (apart k e) z = e ∙ sym (ne_eqb (sum ns) count (λ d. k (omega (arith, inv))))

abbrev pub over : ℕ → Bool
over n = ltb 16 n

-- the library's test of a list is document 01's
pub any_as : (f : ℕ → Bool) (ns : List ℕ) → list_any f ns ≡ any f ns
unfolding any
any_as f [] = refl
any_as f (n ∷ ns) = ap (λ (b : Bool). f n || b) (any_as f ns)
