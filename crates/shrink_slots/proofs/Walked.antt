-- The slots that a walk meets: within 1,024 steps, every one, since a step is odd.
-- Assumes nothing.
use mathlib.Core.Path.{◌≡◌, sym, ap, ◌∙◌, subst}
use Prim.Native.Nat.{ℕ, zero, suc, ◌+◌, ◌*◌, ◌/◌, ◌%◌, ◌^◌, ◌<◌}
use native.Mathlib.Omega.{arith}
use native.Mathlib.Nat.{add-mul, mul_comm, add-mul-div_right, add-mul-mod_self_right, mod-eq_of_lt, pow-succ'}
use lib.Arith.{mod-mul}
use lib.Pow.{pow_pos}
use Rattle.counts.proofs.Arrays.{by_equal}
use Rattle.shrink_slots.specs.Slots.{slot}

pub slot_small : (g d : ℕ) → slot g d < 1024
unfolding slot
slot_small g d = omega arith

module _ (x w i : ℕ) where
  -- Some number of odd steps below n leads from x to i, but for multiples of n.
  abbrev Met : ℕ → Type 0
  Met n = (d : ℕ) × (d < n) × ((x + d * (w * 2 + 1)) % n ≡ i % n)

  other : (a b : ℕ) → (a % 2 ≡ b % 2 → ⊥) → (a + (w * 2 + 1)) % 2 ≡ b % 2
  other a b q = omega (arith, q)

  -- c steps more change the next digit to the base 2, and none below it
  double : (c : ℕ) → 0 < c → Met c → Met (2 * c)
  double c p (d, l, e) = by_equal (y / c % 2) (i / c % 2)
      (λ q. (d, omega arith, digits y q e))
      (λ q. (
        d + c,
        omega arith,
        digits z
            (ap (λ (m : ℕ). m % 2) (ap (λ (m : ℕ). m / c) on ∙ add-mul-div_right y (w * 2 + 1) p)
            ∙ other (y / c) (i / c) q)
            (ap (λ (m : ℕ). m % c) on ∙ add-mul-mod_self_right y (w * 2 + 1) c ∙ e),
      ))
    where
      y : ℕ
      y = x + d * (w * 2 + 1)

      z : ℕ
      z = x + (d + c) * (w * 2 + 1)

      on : z ≡ y + (w * 2 + 1) * c
      on = omega (arith, add-mul d c (w * 2 + 1), mul_comm c (w * 2 + 1))

      digits : (m : ℕ) → m / c % 2 ≡ i / c % 2 → m % c ≡ i % c → m % (2 * c) ≡ i % (2 * c)
      digits m q r =
          mod-mul m {m = 2} {c = c} (omega arith) p
          ∙ ap (λ (k : ℕ). k * c + m % c) q
          ∙ ap (λ (k : ℕ). i / c % 2 * c + k) r
          ∙ sym (mod-mul i {m = 2} {c = c} (omega arith) p)

  powers : (k : ℕ) → Met (2 ^ k)
  powers zero = (0, omega arith, omega arith)
  powers (suc k) = subst Met (sym (pow-succ' 2 k)) (double (2 ^ k) (pow_pos k) (powers k))

pub slot_met : (g i : ℕ) → i < 1024 → (d : ℕ) × (d < 1024) × (slot g d ≡ i)
unfolding slot
slot_met g i l =
    let (d, m, e) = powers g (g / 1024) i 10 in
    (d, m, e ∙ mod-eq_of_lt l)
