-- Pairs that were read: what two that are one share, and that none is never a pair. Assumes nothing.
use Rattle.std.specs.Prelude.{ℕ, ◌≡◌, Option, Some, None}
use mathlib.Core.Path.{ap}
use native.Mathlib.Omega.{arith}

module _ {A : Type 0} {v : A} {n : ℕ} where
  pub no_pair : {P : Type 0} → ◌≡◌ {A = Option (A × ℕ)} None (Some (v, n)) → P
  no_pair e = let z : ◌≡◌ {A = ℕ} 0 1 = cc in absurd (omega arith)

  pub one_pair : {w : A} {m : ℕ} → ◌≡◌ {A = Option (A × ℕ)} (Some (v, n)) (Some (w, m)) → (v ≡ w) × (n ≡ m)
  one_pair {w} {m} e =
      let p : ◌≡◌ {A = A × ℕ} (v, n) (w, m) = cc in (ap (λ (x : A × ℕ). x.0) p, ap (λ (x : A × ℕ). x.1) p)
