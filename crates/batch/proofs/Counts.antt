-- So many tokens are that many windows of k, as a quotient and a rest say it. Assumes nothing.
use mathlib.Core.Path.{◌≡◌, sym, ap, ◌∙◌}
use mathlib.Core.Bool.{true, false, not, ◌||◌}
use Prim.Native.Nat.{ℕ, zero, suc, ◌+◌, ◌*◌, ◌/◌, ◌%◌, ◌<◌, ◌≤◌}
use native.Mathlib.Omega.{arith}
use native.Mathlib.Nat.{div-add-mod', mul_comm, add-zero, zero-mul, suc-mul, mul-le-mul_right}
use native.Mathlib.Numerals.{add-one}
use lib.Arith.{digits_div}
use lib.Dec.{eqb, ltb}
use borrow.Author.Tests.{eq-eqb, ne_eqb, eqb-true, not-false, ltb-false}
use Rattle.laws.proofs.Every.{neither}
use Rattle.paper.specs.Batch.{window_lengths}

-- a sum is its first part where the second is 0
by_rest : (n m r : ℕ) → m + r ≡ n → not (eqb r 0) ≡ not (eqb n m)
by_rest n m zero e = ap not (sym (eq-eqb n m (omega arith)))
by_rest n m (suc r) e = ap not (ne_eqb (suc r) 0 (λ d. omega arith) ∙ sym (ne_eqb n m (λ d. omega arith)))

module _ (n c k : ℕ) where
  module _ (z : c ≡ 0 → ⊥) where
    above : 0 < c
    above = omega (arith, z)

    -- each has length k, and tokens may be left over
    pub left_over : n / c ≡ k → not (eqb (n % c) 0) ≡ not (eqb n (c * k))
    left_over e =
        by_rest n (c * k) (n % c)
        (ap (λ (x : ℕ). x + n % c) (mul_comm c k ∙ ap (λ (x : ℕ). x * c) (sym e)) ∙ div-add-mod' n c)

-- ---- the place of the next window
module _ (c i k a r : ℕ) (h : i < c) (e : a ≡ i * k) (n : r ≡ c * k) where
  -- and the one behind it
  pub next_place : a + k ≡ (i + 1) * k
  next_place = ap (λ (x : ℕ). x + k) e ∙ sym (suc-mul i k) ∙ ap (λ (x : ℕ). x * k) (sym (add-one i))

-- 1 passed: so many windows, no more than 4,096, and room for their answers
pub lengths_passed : (k c n room : ℕ) → window_lengths k c n room ≡ false → (n ≡ c * k) × (c ≤ 4096) × (c ≤ room)
unfolding window_lengths
lengths_passed k c n room e =
    let a = neither (not (eqb n (c * k))) (ltb 4096 c || ltb room c) e in
    let b = neither (ltb 4096 c) (ltb room c) a.1 in
    (eqb-true n (c * k) (not-false (eqb n (c * k)) a.0), ltb-false 4096 c b.0, ltb-false room c b.1)
