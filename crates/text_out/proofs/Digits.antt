-- The digits of a number, as a loop writes them from the last to the first. Assumes nothing.
use Prim.Native.Nat.{ℕ, zero, suc, ◌+◌, ◌-◌, ◌/◌, ◌%◌, ◌<◌, ◌≤◌}
use mathlib.Core.Path.{◌≡◌, refl, ap, ◌∙◌}
use mathlib.Core.List.{List, [], ◌∷◌, ◌++◌}
use native.Mathlib.Omega.{arith}
use native.Mathlib.Numerals.{add-one}
use native.Mathlib.Nat.{mod-eq_of_lt, le_refl}
use borrow.Author.Tests.{ltb-true, ltb-false, lt-ltb, le-ltb}
use lib.Dec.{ltb}
use lib.ListN.{length, set, length-append}
use Rattle.paper.specs.Text.{digits}
use Rattle.rows.proofs.Rest.{by_test}
use Rattle.text_laws.specs.Put.{put}
use Rattle.text_laws.proofs.Put.{put_last}

-- as many digits of a number as asked for, the last ones
abbrev pub pad : ℕ → ℕ → List ℕ
pad zero n = []
pad (suc i) n = pad i (n / 10) ++ ((48 + n % 10) ∷ [])

pub pad_length : (i n : ℕ) → length (pad i n) ≡ i
pad_length zero n = refl
pad_length (suc i) n = length-append (pad i (n / 10)) _ ∙ rw (pad_length i (n / 10)) (add-one i)

pub digits_less : (f n : ℕ) → n < 10 → digits (suc f) n ≡ (48 + n) ∷ []
unfolding digits
digits_less f n h = rw (lt-ltb n 10 h)

pub digits_more : (f n : ℕ) → 10 ≤ n → digits (suc f) n ≡ digits f (n / 10) ++ ((48 + n % 10) ∷ [])
unfolding digits
digits_more f n h = rw (le-ltb n 10 h)

pub width_less : (f n : ℕ) → n < 10 → length (digits (suc f) n) ≡ 1
width_less f n h = rw (digits_less f n h)

pub width_more : (f n : ℕ) → 10 ≤ n → length (digits (suc f) n) ≡ suc (length (digits f (n / 10)))
width_more f n h = rw (digits_more f n h) (length-append (digits f (n / 10)) _ ∙ add-one _)

-- all digits of a number
pub digits_pad : (f n : ℕ) → digits f n ≡ pad (length (digits f n)) n
unfolding digits
digits_pad zero n = refl
digits_pad (suc f) n = by_test (ltb n 10)
    (λ e. let h : n < 10 = ltb-true n 10 e in digits_less f n h ∙ rw (width_less f n h, mod-eq_of_lt h))
    (λ e.
    let h : 10 ≤ n = ltb-false n 10 e in
    digits_more f n h ∙ rw (width_more f n h, ← digits_pad f (n / 10)))

-- one digit more
pub width_up : (f n w : ℕ) → 10 ≤ n → length (digits f (n / 10)) ≡ w → length (digits (suc f) n) ≡ suc w
width_up f n w h e = width_more f n h ∙ ap suc e

pub width_2 : (f n : ℕ) → 10 ≤ n → n < 100 → length (digits (suc (suc f)) n) ≡ 2
width_2 f n h k = width_up (suc f) n 1 h (width_less f (n / 10) (omega arith))

pub width_3 : (f n : ℕ) → 100 ≤ n → n < 1000 → length (digits (suc (suc (suc f))) n) ≡ 3
width_3 f n h k = width_up (suc (suc f)) n 2 (omega arith) (width_2 f (n / 10) (omega arith) (omega arith))

pub width_4 : (f n : ℕ) → 1000 ≤ n → n < 10000 → length (digits (suc (suc (suc (suc f)))) n) ≡ 4
width_4 f n h k = width_up (suc (suc (suc f))) n 3 (omega arith) (width_3 f (n / 10) (omega arith) (omega arith))

pub width_5 : (n : ℕ) → 10000 ≤ n → n < 100000 → length (digits 5 n) ≡ 5
width_5 n h k = width_up 4 n 4 (omega arith) (width_4 0 (n / 10) (omega arith) (omega arith))

-- at most as many digits as asked for
pub width_most : (f n : ℕ) → length (digits f n) ≤ f
unfolding digits
width_most zero n = le_refl 0
width_most (suc f) n = by_test (ltb n 10)
    (λ e. omega (arith, width_less f n (ltb-true n 10 e)))
    (λ e. omega (arith, width_more f n (ltb-false n 10 e), width_most f (n / 10)))

-- a turn of the loop that writes digits: with the last one stored, the others are left to write
pub digit_turn : (l : List ℕ) (at i n : ℕ) → 0 < i → at + i ≤ length l →
    put (set l (at + (i - 1)) (48 + n % 10)) at (pad (i - 1) (n / 10)) ≡ put l at (pad i n)
digit_turn l at zero n h k = absurd (omega arith)
digit_turn l at (suc j) n h k =
    let e : suc j - 1 ≡ j = omega arith in
    let p : length (pad j (n / 10)) ≡ j = pad_length j (n / 10) in
    let m : at + length (pad j (n / 10)) < length l = omega arith in
    let q : put (set l (at + length (pad j (n / 10))) (48 + n % 10)) at (pad j (n / 10)) ≡ put l at (pad (suc j) n) =
    put_last l at (pad j (n / 10)) (48 + n % 10) m in
    rw e (rw p at q)
