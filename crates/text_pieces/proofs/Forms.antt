-- Numbers and productions in form, at a place of a line. Assumes nothing.
use Rattle.std.specs.Prelude.{Option, Some, None, IfSome}
use Prim.Native.Nat.{ℕ, ◌+◌, ◌<◌, ◌≤◌}
use mathlib.Core.Path.{◌≡◌, refl, sym}
use mathlib.Core.Bool.{true, false, ◌&&◌}
use mathlib.Core.List.{List, [], ◌∷◌}
use native.Mathlib.Omega.{arith}
use native.Mathlib.Nat.{le_refl}
use borrow.Author.Tests.{le-leb, lt-leb, leb-true, eq-eqb, ne_eqb}
use lib.IntN.{ℤ, negsuc}
use lib.Dec.{leb}
use lib.ListN.{length, get_or, drop, length-drop}
use Rattle.paper.specs.Rows.{accepting}
use Rattle.paper.specs.Words.{bytes}
use Rattle.paper.specs.Text.{is_digit, digit_count, value, in_form}
use Rattle.rows.specs.Places.{code}
use Rattle.rows.proofs.Rest.{by_test, both}
use Rattle.text_pieces.specs.Pieces.{starts, Counts, number_at, as_production, production_at, field_at, last_at}
use Rattle.text_pieces.proofs.Never.{no_pair, one_pair}
use Rattle.text_pieces.proofs.Numbers.{value_small}
use Rattle.text_pieces.proofs.Starts.{starts_within}

pub few_digits : (bs : List ℕ) → digit_count bs ≤ length bs
unfolding digit_count
few_digits [] = le_refl 0
few_digits (b ∷ bs) = by_test (is_digit b) (λ e. rw e (omega (arith, few_digits bs))) (λ e. rw e (omega arith))

-- the tests of the form, one after another
module _ (bs : List ℕ) (n v : ℕ) (c : Counts bs n v) where
  pub form_none : n < 1 → in_form bs ≡ false
  unfolding in_form
  form_none h = let e : n ≡ digit_count bs = c.all (omega arith) in rw (← e, lt-leb 1 n h)

  pub form_long : 5 < n → in_form bs ≡ false
  unfolding in_form
  form_long h =
      let k : 1 ≤ digit_count bs = omega (arith, c.least) in
      let m : 5 < digit_count bs = omega (arith, c.least) in
      rw (le-leb 1 (digit_count bs) k, lt-leb (digit_count bs) 5 m)

  pub form_zero : 1 ≤ n → n ≤ 5 → (n ≡ 1 → ⊥) → get_or bs 0 0 ≡ 48 → in_form bs ≡ false
  unfolding in_form
  form_zero h k m z =
      let e : n ≡ digit_count bs = c.all k in
      rw (← e, le-leb 1 n h, le-leb n 5 k, ne_eqb n 1 m, eq-eqb (get_or bs 0 0) 48 z)

  pub form_one : n ≡ 1 → in_form bs ≡ true
  unfolding in_form
  form_one h = let e : n ≡ digit_count bs = c.all (omega arith) in rw (← e, h)

  pub form_more : 1 ≤ n → n ≤ 5 → (n ≡ 1 → ⊥) → (get_or bs 0 0 ≡ 48 → ⊥) → in_form bs ≡ true
  unfolding in_form
  form_more h k m z =
      let e : n ≡ digit_count bs = c.all k in
      rw (← e, le-leb 1 n h, le-leb n 5 k, ne_eqb n 1 m, ne_eqb (get_or bs 0 0) 48 z)

module _ (l : List ℕ) (at : ℕ) where
  pub number_not : in_form (drop at l) ≡ false → None ≡ number_at l at
  unfolding number_at
  number_not f = rw f

  pub number_so : (n v : ℕ) → Counts (drop at l) n v → n ≤ 5 → in_form (drop at l) ≡ true →
      Some (v, at + n) ≡ number_at l at
  unfolding number_at
  number_so n v c k f = rw (f, c.made, c.all k)

-- what is read lies within the line and has at most five digits
pub record Within (l : List ℕ) (v n most : ℕ) : Type 0 where
  pub small : v < most
  pub inside : n ≤ length l

in_digits : (bs : List ℕ) → in_form bs ≡ true → digit_count bs ≤ 5
unfolding in_form
in_digits bs e =
    let h = both (leb 1 (digit_count bs) && leb (digit_count bs) 5) _ e in
    leb-true (digit_count bs) 5 (both (leb 1 (digit_count bs)) (leb (digit_count bs) 5) h.0).1

pub number_within : (l : List ℕ) (at v n : ℕ) → at ≤ length l → number_at l at ≡ Some (v, n) → Within l v n 100000
unfolding number_at
number_within l at v n h e = by_test (in_form (drop at l))
    (λ f.
    let bs = drop at l in
    let g : Some (value (digit_count bs) 0 bs, at + digit_count bs) ≡ Some (v, n) = rw f at e in
    let same = one_pair g in
    record {
      small = omega (arith, value_small (digit_count bs) bs (le_refl _) (in_digits bs f));
      inside = omega (arith, few_digits bs, length-drop at l);
    })
    (λ f. no_pair (rw f at e))

-- the production by its code
pub production_within : (l : List ℕ) (at : ℕ) (p : ℤ) (n : ℕ) → at ≤ length l → production_at l at ≡ Some (p, n)
    → Within l (code (accepting p)) n 100001
unfolding production_at bytes
production_within l at p n h e = by_test (starts (45 ∷ 49 ∷ []) (drop at l))
    (λ f.
    let g : Some (negsuc 0, at + 2) ≡ Some (p, n) = rw f at e in
    let a = (one_pair g).0 in
    let b = (one_pair g).1 in
    rw (← a) (record { small = omega arith; inside = omega (arith, starts_within (45 ∷ 49 ∷ []) l at h f) }))
    (λ f. signed_within (number_at l at) refl (rw f at e))
  where
    signed_within : (x : Option (ℕ × ℕ)) → number_at l at ≡ x → as_production x ≡ Some (p, n)
        → Within l (code (accepting p)) n 100001
    signed_within (Some (v, m)) q r =
        let w = number_within l at v m h q in
        let a = (one_pair r).0 in
        let b = (one_pair r).1 in
        rw (← a) (record { small = omega (arith, w.small); inside = omega (arith, w.inside) })
    signed_within None q r = no_pair r

module _ (l : List ℕ) (at : ℕ) (w : List ℕ) (h : at ≤ length l) where
  pub field_within : (v n : ℕ) → field_at l at w ≡ Some (v, n) → Within l v n 100000
  unfolding field_at
  field_within v n e = by_test (starts w (drop at l))
      (λ f. number_within l (at + length w) v n (starts_within w l at h f) (rw f at e))
      (λ f. no_pair (rw f at e))

  pub last_within : (p : ℤ) (n : ℕ) → last_at l at w ≡ Some (p, n) → Within l (code (accepting p)) n 100001
  unfolding last_at
  last_within p n e = by_test (starts w (drop at l))
      (λ f. production_within l (at + length w) p n (starts_within w l at h f) (rw f at e))
      (λ f. no_pair (rw f at e))

  -- the same of what was answered
  pub field_known : (o : Option (ℕ × ℕ)) → o ≡ field_at l at w → IfSome o (λ p. (p.0 < 100000) × (p.1 ≤ length l))
  field_known (Some (v, n)) e = let h = field_within v n (sym e) in (h.small, h.inside)
  field_known None e = tt

  pub last_known : (o : Option (ℤ × ℕ)) → o ≡ last_at l at w → IfSome o (λ p. p.1 ≤ length l)
  last_known (Some (p, n)) e = (last_within p n (sym e)).inside
  last_known None e = tt
