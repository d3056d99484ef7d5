-- Where the lines of a text end. Assumes nothing.
use Rattle.std.specs.Prelude.{Option, Some, None, position}
use Rattle.std.specs.List.{position_or_len}
use Prim.Native.Nat.{ℕ, ◌+◌, ◌-◌, ◌<◌, ◌≤◌}
use mathlib.Core.Path.{◌≡◌, refl, ap, sym, ◌∙◌}
use mathlib.Core.Bool.{false}
use mathlib.Core.List.{List, [], ◌∷◌}
use native.Mathlib.Omega.{arith}
use borrow.Author.Tests.{lt-ltb, le-ltb, ltb-true, ltb-false}
use lib.Dec.{eqb, ltb}
use lib.ListN.{length, take, drop, length-drop}
use Rattle.rows.proofs.Rest.{by_test}
use Rattle.text_lines.specs.Reading.{front, line_end, line_from, row_of, row_from, head_of, head_from}

-- none is never one
pub no_place : {P A : Type 0} {a : A} → ◌≡◌ {A = Option A} None (Some a) → P
no_place e = let z : ◌≡◌ {A = ℕ} 0 1 = cc in absurd (omega arith)

-- the first LF, as std finds it
pub front_length : (bs : List ℕ) → position_or_len (λ b. eqb b 10) bs ≡ length (front bs)
unfolding front
front_length [] = refl
front_length (b ∷ bs) = by_test (eqb b 10) (λ e. rw e) (λ e. rw e (ap (λ (n : ℕ). 1 + n) (front_length bs) ∙ omega arith))

-- the bytes of a line, as a part of the text
pub front_take : (bs : List ℕ) → take (length (front bs)) bs ≡ front bs
unfolding front
front_take [] = refl
front_take (b ∷ bs) = by_test (eqb b 10)
    (λ e. rw e)
    (λ e. rw e (ap (λ (x : List ℕ). b ∷ x) (front_take bs)))

module _ (t : List ℕ) (at : ℕ) where
  -- past the text
  pub line_beyond : length t < at → line_from t at ≡ None
  unfolding line_from line_end
  line_beyond h = let k : length t ≤ at + length (front (drop at t)) = omega arith in rw (le-ltb (at + length (front (drop at t))) (length t) k)

  module _ (h : at ≤ length t) where
    pub lf_found : (n : ℕ) → position (λ b. eqb b 10) (drop at t) ≡ Some n → line_from t at ≡ Some (at + n)
    unfolding line_from line_end
    lf_found n e = by_test (ltb (position_or_len (λ b. eqb b 10) (drop at t)) (length (drop at t)))
        (λ k.
        let s : ◌≡◌ {A = Option ℕ} (Some (position_or_len (λ b. eqb b 10) (drop at t))) (Some n) = rw k at e in
        let m : position_or_len (λ b. eqb b 10) (drop at t) ≡ n = cc in
        let f : length (front (drop at t)) ≡ n = sym (front_length (drop at t)) ∙ m in
        let i : at + n < length t = omega (arith, ltb-true _ _ k, length-drop at t) in
        rw (f, lt-ltb (at + n) (length t) i))
        (λ k. no_place (rw k at e))

    pub lf_none : position (λ b. eqb b 10) (drop at t) ≡ None → line_from t at ≡ None
    unfolding line_from line_end
    lf_none e = by_test (ltb (position_or_len (λ b. eqb b 10) (drop at t)) (length (drop at t)))
        (λ k. no_place (sym (rw k at e)))
        (λ k.
        let i : length t ≤ at + length (front (drop at t)) =
        omega (arith, ltb-false _ _ k, length-drop at t, front_length (drop at t)) in
        rw (le-ltb (at + length (front (drop at t))) (length t) i))

  -- what a line that was found is
  pub ended_at : (e : ℕ) → line_from t at ≡ Some e → (line_end t at ≡ e) × (e < length t)
  unfolding line_from
  ended_at e q = by_test (ltb (line_end t at) (length t))
      (λ k.
      let w : ◌≡◌ {A = Option ℕ} (Some (line_end t at)) (Some e) = rw k at q in
      let n : line_end t at ≡ e = cc in
      (n, omega (arith, ltb-true (line_end t at) (length t) k)))
      (λ k. no_place (rw k at q))

  open_at : line_from t at ≡ None → ltb (line_end t at) (length t) ≡ false
  unfolding line_from
  open_at q = by_test (ltb (line_end t at) (length t)) (λ k. no_place (sym (rw k at q))) (λ k. k)

  pub row_unended : line_from t at ≡ None → row_from t at ≡ None
  unfolding row_from
  row_unended q = rw (open_at q)

  pub head_unended : line_from t at ≡ None → head_from t at ≡ None
  unfolding head_from
  head_unended q = rw (open_at q)

  module _ (e : ℕ) (q : line_from t at ≡ Some e) where
    part_front : take (e - at) (drop at t) ≡ front (drop at t)
    unfolding line_end
    part_front =
        let n : e - at ≡ length (front (drop at t)) = omega (arith, (ended_at e q).0) in
        rw n (front_take (drop at t))

    pub row_ended : row_of (take (e - at) (drop at t)) (e + 1) ≡ row_from t at
    unfolding row_from
    row_ended = rw (part_front, (ended_at e q).0, lt-ltb e (length t) (ended_at e q).1)

    pub head_ended : head_of (take (e - at) (drop at t)) (e + 1) ≡ head_from t at
    unfolding head_from
    head_ended = rw (part_front, (ended_at e q).0, lt-ltb e (length t) (ended_at e q).1)
