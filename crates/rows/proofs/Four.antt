-- Four numbers set from a place on, as a list. Assumes room for them.
use mathlib.Core.Path.{◌≡◌, ◌∙◌}
use mathlib.Core.List.{List, [], ◌∷◌, ◌++◌, append_assoc}
use Prim.Native.Nat.{ℕ, suc, ◌+◌, ◌≤◌}
use native.Mathlib.Omega.{arith}
use lib.ListN.{length, take, drop}
use lib.Seq.{sets-eq}
use lib.IntN.{ℤ}
use Rattle.rows.specs.Places.{four}

pub four_is : (l : List ℤ) (i : ℕ) (a b c d : ℤ) → i + 4 ≤ length l
    → four l i a b c d ≡ take i l ++ ((a ∷ b ∷ c ∷ d ∷ []) ++ drop (i + 4) l)
four_is l i a b c d h =
    let e₁ : i + 1 ≡ suc i = omega arith in
    let e₂ : i + 2 ≡ suc (suc i) = omega arith in
    let e₃ : i + 3 ≡ suc (suc (suc i)) = omega arith in
    rw (e₁, e₂, e₃)
    (sets-eq (a ∷ b ∷ c ∷ d ∷ []) l i h ∙ append_assoc (take i l) (a ∷ b ∷ c ∷ d ∷ []) (drop (i + 4) l))
