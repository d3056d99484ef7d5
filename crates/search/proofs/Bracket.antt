-- The two ends between which the search by halves looks, and the rows that the search passed.
-- Assumes nothing.
use mathlib.Core.Path.{◌≡◌, ap}
use mathlib.Core.List.{List}
use Prim.Native.Nat.{ℕ, ◌+◌, ◌/◌, ◌≤◌, ◌<◌}
use native.Mathlib.Omega.{arith}
use borrow.Author.Tests.{ltb-true, ltb-false}
use lib.Dec.{ltb}
use lib.ListN.{length}
use lib.IntN.{ℤ}
use Rattle.rows.specs.Places.{row_at, key}
use Rattle.rows.specs.Passed.{Passed}
use Rattle.search.specs.Search.{Bracket, Lower, Below, Scanned}
use Rattle.rows.proofs.Rest.{by_test}
use Rattle.rows.proofs.Keys.{compared}
use Rattle.rows.proofs.Passing.{keys_rise}

-- nothing is known yet of the rows after the first, whose last is below x
pub opened : {ns : List ℤ} (p : Passed ns) (x m : ℕ) → m < length ns / 4 → key (row_at ns m) < x
    → Bracket ns x (m + 1) (length ns / 4)
opened {ns} p x m l h = record {
  ordered = omega arith;
  within = omega arith;
  below = λ j k. compared j m
      (λ q. omega (arith, keys_rise p j m q l))
      (λ q. omega (arith, ap (λ (i : ℕ). key (row_at ns i)) q))
      (λ q. absurd (omega arith));
  above = λ j k n. absurd (omega arith);
}

module _ {ns : List ℤ} {x low high : ℕ} (p : Passed ns) (b : Bracket ns x low high) (m : ℕ) (h : m < high) where
  pub raised : key (row_at ns m) < x → Bracket ns x (m + 1) high
  raised l = record {
    ordered = omega arith;
    within = b.within;
    below = λ j k. compared j m
        (λ q. omega (arith, keys_rise p j m q (omega (arith, b.within))))
        (λ q. omega (arith, ap (λ (i : ℕ). key (row_at ns i)) q))
        (λ q. absurd (omega arith));
    above = b.above;
  }

  pub sunk : low ≤ m → x ≤ key (row_at ns m) → Bracket ns x low m
  sunk k l = record {
    ordered = k;
    within = omega (arith, b.within);
    below = b.below;
    above = λ j q n. compared m j
        (λ d. omega (arith, keys_rise p m j d n))
        (λ d. omega (arith, ap (λ (i : ℕ). key (row_at ns i)) d))
        (λ d. absurd (omega arith));
  }

pub met : {ns : List ℤ} {x low high : ℕ} → Bracket ns x low high → high ≤ low → Lower ns x low
met b h = record {
  within = omega (arith, b.ordered, b.within);
  below = b.below;
  above = λ j l n. b.above j (omega arith) n;
}

-- no row passed yet, and one more
pub none_passed : (ns : List ℤ) (x : ℕ) → Below ns x 0
none_passed ns x = record { row = λ j l. absurd (omega arith) }

pub one_passed : {ns : List ℤ} {x i : ℕ} → Below ns x i → key (row_at ns i) < x → Below ns x (i + 1)
one_passed {ns} {x} {i} b h = record {
  row = λ j l. compared j i
      (λ q. b.row j q)
      (λ q. omega (arith, ap (λ (k : ℕ). key (row_at ns k)) q))
      (λ q. absurd (omega arith));
}

-- the first of all rows, where the search went as far as it had to
pub scanned : {ns : List ℤ} (p : Passed ns) (end x i : ℕ) → Scanned ns end x i → end ≤ length ns / 4
    → (i ≡ end → end ≡ length ns / 4) → Lower ns x i
scanned {ns} p end x i s w f = record {
  within = omega (arith, s.within);
  below = s.below.row;
  above = λ j l n. by_test (ltb i end)
      (λ e. up j l n (s.here (ltb-true i end e)))
      (λ e. let k : end ≤ i = ltb-false i end e in
      let q : i ≡ end = omega (arith, s.within) in absurd (omega (arith, f q)));
}
  where
    up : (j : ℕ) → i ≤ j → j < length ns / 4 → x ≤ key (row_at ns i) → x ≤ key (row_at ns j)
    up j l n h = compared i j
        (λ d. omega (arith, keys_rise p i j d n))
        (λ d. omega (arith, ap (λ (k : ℕ). key (row_at ns k)) d))
        (λ d. absurd (omega arith))
