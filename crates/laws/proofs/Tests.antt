-- The two ways a test of two numbers can go, with what is known in each. Assumes nothing.
use mathlib.Core.Path.{◌≡◌, refl}
use mathlib.Core.Bool.{Bool, true, false}
use mathlib.Core.Option.{none, some}
use Prim.Native.Nat.{ℕ, ◌<◌, ◌≤◌}
use native.Mathlib.Omega.{arith}
use lib.Dec.{eqb, ltb}
use borrow.Author.Tests.{eqb-true, eqb-false, ltb-true, ltb-false}

-- Equal or not.
pub data Test (a b : ℕ) (t : Bool) : Type 0 where
  same : a ≡ b → t ≡ true → Test a b t
  apart : (a ≡ b → ⊥) → t ≡ false → Test a b t

pub test : (a b : ℕ) → Test a b (eqb a b)
test a b = go (eqb a b) refl
  where
    go : (t : Bool) → eqb a b ≡ t → Test a b (eqb a b)
    go true e = same (eqb-true a b e) e
    go false e = apart (eqb-false a b e) e

-- Below or not.
pub data Below (a b : ℕ) (t : Bool) : Type 0 where
  is_below : a < b → t ≡ true → Below a b t
  not_below : b ≤ a → t ≡ false → Below a b t

pub below? : (a b : ℕ) → Below a b (ltb a b)
below? a b = go (ltb a b) refl
  where
    go : (t : Bool) → ltb a b ≡ t → Below a b (ltb a b)
    go true e = is_below (ltb-true a b e) e
    go false e = not_below (ltb-false a b e) e

-- A none is no some.
pub never : {A : Type 0} {a : A} → none ≡ some a → ⊥
never {A} {a} e = let z : ◌≡◌ {A = ℕ} 0 1 = cc in omega arith
