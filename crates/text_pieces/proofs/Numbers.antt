-- Digits at a place of a line, and the number that they make. Assumes nothing.
use Prim.Native.Nat.{ℕ, zero, suc, ◌+◌, ◌-◌, ◌*◌, ◌^◌, ◌<◌, ◌≤◌}
use mathlib.Core.Path.{◌≡◌, refl, ap, sym, ◌∙◌}
use mathlib.Core.Bool.{true, false, cond}
use mathlib.Core.List.{List, [], ◌∷◌}
use native.Mathlib.Omega.{arith}
use native.Mathlib.Nat.{pow-succ', mul_assoc, mul-le-mul_right}
use native.Mathlib.Numerals.{add-one}
use borrow.Author.Tests.{le-leb, leb-true}
use lib.Dec.{leb}
use lib.ListN.{length, get_or, drop, drop_of_length-le}
use lib.Seq.{drop-cons}
use Rattle.std.specs.Char.{is_ascii_digit}
use Rattle.paper.specs.Text.{is_digit, digit_count, value}
use Rattle.rows.proofs.Rest.{by_test, both}

pub digit_yes : (b : ℕ) → 48 ≤ b → b ≤ 57 → is_digit b ≡ true
unfolding is_digit
digit_yes b h k = rw (le-leb 48 b h, le-leb b 57 k)

pub digit_of : (b : ℕ) → is_digit b ≡ true → (48 ≤ b) × (b ≤ 57)
unfolding is_digit
digit_of b e = let h = both (leb 48 b) (leb b 57) e in (leb-true 48 b h.0, leb-true b 57 h.1)

-- the digits from the place k on
module _ (l : List ℕ) (k : ℕ) where
  pub digits_end : length l ≤ k → digit_count (drop k l) ≡ 0
  unfolding digit_count
  digits_end h = ap digit_count (drop_of_length-le l h)

  module _ (h : k < length l) where
    digits_here : digit_count (drop k l) ≡ cond (is_digit (get_or l k 0)) (suc (digit_count (drop (suc k) l))) 0
    unfolding digit_count
    digits_here = ap digit_count (drop-cons l k 0 h)

    pub digits_next : is_ascii_digit (get_or l k 0) ≡ true → digit_count (drop k l) ≡ suc (digit_count (drop (suc k) l))
    unfolding is_digit
    digits_next e = digits_here ∙ rw e

    pub digits_stop : is_ascii_digit (get_or l k 0) ≡ false → digit_count (drop k l) ≡ 0
    unfolding is_digit
    digits_stop e = digits_here ∙ rw e

-- one digit more
value_last : (c n : ℕ) (bs : List ℕ) → c < length bs → value (suc c) n bs ≡ value c n bs * 10 + (get_or bs c 0 - 48)
unfolding value
value_last c n [] h = absurd (omega arith)
value_last zero n (b ∷ bs) h = refl
value_last (suc c) n (b ∷ bs) h = value_last c (n * 10 + (b - 48)) bs (omega arith)

pub value_on : (n : ℕ) (bs : List ℕ) → n < length bs → value n 0 bs * 10 + (get_or bs n 0 - 48) ≡ value (n + 1) 0 bs
value_on n bs h = rw (add-one n) (sym (value_last n 0 bs h))

value_bound : (c n : ℕ) (bs : List ℕ) → c ≤ digit_count bs → value c n bs < suc n * 10 ^ c
unfolding value digit_count
value_bound zero n bs h = omega arith
value_bound (suc c) n [] h = absurd (omega arith)
value_bound (suc c) n (b ∷ bs) h = by_test (is_digit b)
    (λ e.
    let d = digit_of b e in
    let m : suc c ≤ suc (digit_count bs) = rw e at h in
    let s : suc (n * 10 + (b - 48)) ≤ suc n * 10 = omega arith in
    let p : suc n * 10 * 10 ^ c ≡ suc n * 10 ^ suc c = rw (pow-succ' 10 c) (mul_assoc (suc n) 10 (10 ^ c)) in
    omega (arith, value_bound c (n * 10 + (b - 48)) bs (omega arith), mul-le-mul_right (10 ^ c) s))
    (λ e. let m : suc c ≤ 0 = rw e at h in absurd (omega arith))

tens : (c : ℕ) → c ≤ 5 → 10 ^ c ≤ 100000
tens zero h = omega arith
tens (suc zero) h = omega arith
tens (suc (suc zero)) h = omega arith
tens (suc (suc (suc zero))) h = omega arith
tens (suc (suc (suc (suc zero)))) h = omega arith
tens (suc (suc (suc (suc (suc zero))))) h = omega arith
tens (suc (suc (suc (suc (suc (suc c)))))) h = absurd (omega arith)

-- five digits at most
pub value_small : (c : ℕ) (bs : List ℕ) → c ≤ digit_count bs → c ≤ 5 → value c 0 bs < 100000
value_small c bs h k = omega (arith, value_bound c 0 bs h, tens c k)
