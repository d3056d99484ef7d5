-- A number's digits are read as the number, and digits in form are the number's. Assumes nothing.
use Prim.Native.Nat.{ℕ, zero, suc, ◌+◌, ◌-◌, ◌*◌, ◌/◌, ◌%◌, ◌^◌, ◌<◌, ◌≤◌}
use mathlib.Core.Path.{◌≡◌, refl, ap, sym, ◌∙◌}
use mathlib.Core.Bool.{true, false, not, ◌&&◌, ◌||◌, or-true}
use mathlib.Core.List.{List, [], ◌∷◌, ◌++◌, append_assoc, append-nil}
use native.Mathlib.Omega.{arith}
use native.Mathlib.Nat.{mod-lt, div-add-mod', pow-suc, add-zero}
use borrow.Author.Tests.{ltb-true, ltb-false, le-leb, leb-true, eqb-false, ne_eqb, not-true}
use lib.Dec.{eqb, ltb, leb}
use lib.ListN.{length, get_or, take, drop, length-append, take-append-drop, get_or-append}
use lib.Seq.{get_or-take}
use Rattle.paper.specs.Text.{digits, is_digit, digit_count, value, in_form}
use Rattle.rows.proofs.Rest.{by_test, both}
use Rattle.text_out.proofs.Digits.{digits_less, digits_more, width_less, width_most}
use Rattle.text_pieces.proofs.Numbers.{digit_yes, digit_of}

-- the number of digits, after a number that stands before them
abbrev pub num : ℕ → List ℕ → ℕ
num n [] = n
num n (b ∷ bs) = num (n * 10 + (b - 48)) bs

num_last : (n : ℕ) (bs : List ℕ) (b : ℕ) → num n (bs ++ (b ∷ [])) ≡ num n bs * 10 + (b - 48)
num_last n [] b = refl
num_last n (c ∷ bs) b = num_last (n * 10 + (c - 48)) bs b

value_num : (n : ℕ) (ds bs : List ℕ) → value (length ds) n (ds ++ bs) ≡ num n ds
unfolding value
value_num n [] bs = refl
value_num n (d ∷ ds) bs = value_num (n * 10 + (d - 48)) ds bs

-- all are digits
abbrev pub Digits : List ℕ → Type 0
Digits [] = Unit
Digits (b ∷ bs) = (is_digit b ≡ true) × Digits bs

digits_last : (ds : List ℕ) (d : ℕ) → Digits ds → is_digit d ≡ true → Digits (ds ++ (d ∷ []))
digits_last [] d h e = (e, tt)
digits_last (b ∷ ds) d h e = (h.0, digits_last ds d h.1 e)

counted : (ds bs : List ℕ) → Digits ds → digit_count bs ≡ 0 → digit_count (ds ++ bs) ≡ length ds
unfolding digit_count
counted [] bs h e = e
counted (d ∷ ds) bs h e = rw h.0 (ap suc (counted ds bs h.1 e))

-- a number's own digits
pub are_digits : (f n : ℕ) → Digits (digits f n)
unfolding digits
are_digits zero n = tt
are_digits (suc f) n = by_test (ltb n 10)
    (λ e. let h = ltb-true n 10 e in rw e (digit_yes (48 + n) (omega arith) (omega arith), tt))
    (λ e.
    let m = mod-lt n {m = 10} (omega arith) in
    rw e (digits_last (digits f (n / 10)) (48 + n % 10) (are_digits f (n / 10))
    (digit_yes (48 + n % 10) (omega arith) (omega arith))))

own_number : (f n : ℕ) → n < 10 ^ f → num 0 (digits f n) ≡ n
unfolding digits
own_number zero n h = omega arith
own_number (suc f) n h = by_test (ltb n 10)
    (λ e. rw e (omega arith))
    (λ e.
    let k : n / 10 < 10 ^ f = omega (arith, pow-suc 10 f) in
    rw e (num_last 0 (digits f (n / 10)) (48 + n % 10) ∙ rw (own_number f (n / 10) k)
    (omega (arith, div-add-mod' n 10))))

-- a number's first digit is no 0 unless it is 0
pub own_first : (f n : ℕ) → 0 < n → n < 10 ^ f → (0 < length (digits f n)) × (get_or (digits f n) 0 0 ≡ 48 → ⊥)
own_first zero n h k = absurd (omega arith)
own_first (suc f) n h k = by_test (ltb n 10)
    (λ e. let g = ltb-true n 10 e in rw (digits_less f n g) (omega arith, λ q. omega arith))
    (λ e.
    let g = ltb-false n 10 e in
    let w = own_first f (n / 10) (omega arith) (omega (arith, pow-suc 10 f)) in
    let last = (48 + n % 10) ∷ [] in
    rw (digits_more f n g) (
      omega (arith, length-append (digits f (n / 10)) last),
      λ q. w.1 (sym (get_or-append (digits f (n / 10)) last 0 0 w.0) ∙ q),
    ))

in_form_of : (bs : List ℕ) (c : ℕ) → c ≡ digit_count bs → 1 ≤ c → c ≤ 5 →
    (eqb c 1 || not (eqb (get_or bs 0 0) 48)) ≡ true →
    in_form bs ≡ true
unfolding in_form
in_form_of bs c e h k q = rw (← e, le-leb 1 c h, le-leb c 5 k) q

-- a number's digits, before what is no digit, are the number
pub record Written (n : ℕ) (bs : List ℕ) : Type 0 where
  pub formed : in_form (digits 5 n ++ bs) ≡ true
  pub count : digit_count (digits 5 n ++ bs) ≡ length (digits 5 n)
  pub number : value (length (digits 5 n)) 0 (digits 5 n ++ bs) ≡ n

pub written : (n : ℕ) (bs : List ℕ) → n < 100000 → digit_count bs ≡ 0 → Written n bs
written n bs h e =
    let c = counted (digits 5 n) bs (are_digits 5 n) e in
    record {
      formed = formed n h c;
      count = c;
      number = value_num 0 (digits 5 n) bs ∙ own_number 5 n h;
    }
  where
    formed : (m : ℕ) → m < 100000 → digit_count (digits 5 m ++ bs) ≡ length (digits 5 m) →
        in_form (digits 5 m ++ bs) ≡ true
    formed zero k c =
        let w : length (digits 5 0) ≡ 1 = width_less 4 0 (omega arith) in
        in_form_of (digits 5 0 ++ bs) (length (digits 5 0)) (sym c) (omega arith) (omega arith) (rw w)
    formed (suc m) k c =
        let w = own_first 5 (suc m) (omega arith) k in
        let g : get_or (digits 5 (suc m) ++ bs) 0 0 ≡ get_or (digits 5 (suc m)) 0 0 =
        get_or-append (digits 5 (suc m)) bs 0 0 w.0 in
        let q : eqb (get_or (digits 5 (suc m) ++ bs) 0 0) 48 ≡ false = ne_eqb _ 48 (λ x. w.1 (sym g ∙ x)) in
        in_form_of (digits 5 (suc m) ++ bs) (length (digits 5 (suc m))) (sym c) w.0 (width_most 5 (suc m))
        (rw q (or-true (eqb (length (digits 5 (suc m))) 1)))

-- digits in form are those of their number
grown : (f m : ℕ) (ds : List ℕ) → 0 < m → Digits ds → digits (f + length ds) (num m ds) ≡ digits f m ++ ds
grown f m [] h k = rw (add-zero f) (sym (append-nil (digits f m)))
grown f m (d ∷ ds) h k =
    let b = digit_of d k.0 in
    let n = m * 10 + (d - 48) in
    let e : f + suc (length ds) ≡ suc f + length ds = omega arith in
    let q : n / 10 ≡ m = omega arith in
    let r : 48 + n % 10 ≡ d = omega arith in
    let g : digits (suc f) n ≡ digits f m ++ (d ∷ []) = digits_more f n (omega arith) ∙ rw (q, r) in
    rw e
    (grown (suc f) n ds (omega arith) k.1
    ∙ ap (λ (x : List ℕ). x ++ ds) g
    ∙ append_assoc (digits f m) (d ∷ []) ds)

-- the digits at the front
abbrev lead : List ℕ → List ℕ
lead bs = take (digit_count bs) bs

lead_digits : (bs : List ℕ) → Digits (lead bs)
unfolding digit_count
lead_digits [] = tt
lead_digits (b ∷ bs) = by_test (is_digit b) (λ e. rw e (e, lead_digits bs)) (λ e. rw e tt)

lead_number : (n : ℕ) (bs : List ℕ) → value (digit_count bs) n bs ≡ num n (lead bs)
unfolding digit_count value
lead_number n [] = refl
lead_number n (b ∷ bs) = by_test (is_digit b) (λ e. rw e (lead_number (n * 10 + (b - 48)) bs)) (λ e. rw e)

rebuilt : (ds : List ℕ) → Digits ds → 1 ≤ length ds → length ds ≤ 5 →
    (eqb (length ds) 1 || not (eqb (get_or ds 0 0) 48)) ≡ true → digits 5 (num 0 ds) ≡ ds
rebuilt [] k a b e = absurd (omega arith)
rebuilt (d ∷ []) k a b e =
    let h = digit_of d k.0 in
    let z : 48 + (0 * 10 + (d - 48)) ≡ d = omega arith in
    digits_less 4 (0 * 10 + (d - 48)) (omega arith) ∙ rw z
rebuilt (d ∷ c ∷ ds) k a b e =
    let h = digit_of d k.0 in
    let one : eqb (suc (suc (length ds))) 1 ≡ false = ne_eqb (suc (suc (length ds))) 1 (λ q. omega arith) in
    let l : not (eqb d 48) ≡ true = rw one at e in
    let n = eqb-false d 48 (not-true (eqb d 48) l) in
    let m = 0 * 10 + (d - 48) in
    let f = 4 - length (c ∷ ds) in
    let z : 48 + m ≡ d = omega arith in
    let s : suc f + length (c ∷ ds) ≡ 5 = omega arith in
    let g : digits (suc f + length (c ∷ ds)) (num m (c ∷ ds)) ≡ digits (suc f) m ++ (c ∷ ds) =
    grown (suc f) m (c ∷ ds) (omega arith) k.1 in
    let w : digits (suc f) m ≡ d ∷ [] = digits_less f m (omega arith) ∙ rw z in
    (rw s at g) ∙ rw w

lead_length : (bs : List ℕ) → length (lead bs) ≡ digit_count bs
unfolding digit_count
lead_length [] = refl
lead_length (b ∷ bs) = by_test (is_digit b) (λ e. rw e (ap suc (lead_length bs))) (λ e. rw e)

lead_first : (bs : List ℕ) → 1 ≤ digit_count bs → get_or (lead bs) 0 0 ≡ get_or bs 0 0
lead_first bs h = get_or-take (digit_count bs) bs 0 0 h

pub formed_digits : (bs : List ℕ) → in_form bs ≡ true →
    digits 5 (value (digit_count bs) 0 bs) ++ drop (digit_count bs) bs ≡ bs
unfolding in_form
formed_digits bs e =
    let h = both (leb 1 (digit_count bs) && leb (digit_count bs) 5) _ e in
    let g = both (leb 1 (digit_count bs)) (leb (digit_count bs) 5) h.0 in
    let a = leb-true 1 (digit_count bs) g.0 in
    let b = leb-true (digit_count bs) 5 g.1 in
    let n = lead_length bs in
    let f : (eqb (length (lead bs)) 1 || not (eqb (get_or (lead bs) 0 0) 48)) ≡ true = rw (n, lead_first bs a) h.1 in
    ap (λ (x : ℕ). digits 5 x ++ drop (digit_count bs) bs) (lead_number 0 bs)
    ∙ ap (λ (x : List ℕ). x ++ drop (digit_count bs) bs)
    (rebuilt (lead bs) (lead_digits bs) (omega arith) (omega arith) f)
    ∙ take-append-drop (digit_count bs) bs
