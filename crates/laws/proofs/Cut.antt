-- Strings joined and cut again by their lengths are the same strings. Assumes nothing.
use mathlib.Core.Path.{◌≡◌, refl, ◌∙◌, ap, ap₂}
use mathlib.Core.List.{List, [], ◌∷◌, map}
use Prim.Native.Nat.{ℕ}
use native.Mathlib.Omega.{arith}
use lib.ListN.{length, length-append}
use lib.Seq.{take_at, drop_at}
use Rattle.paper.specs.Build.{joined, strings, sum}

pub strings_joined : (σs : List (List ℕ)) → strings (map (λ σ. length σ) σs) (joined σs) ≡ σs
unfolding strings joined
strings_joined [] = refl
strings_joined (σ ∷ σs) =
    ap₂ (λ (x : List ℕ) (y : List (List ℕ)). x ∷ y) (take_at σ (joined σs) (length σ) refl)
    (ap (strings (map (λ σ. length σ) σs)) (drop_at σ (joined σs) (length σ) refl) ∙ strings_joined σs)

pub sum_joined : (σs : List (List ℕ)) → sum (map (λ σ. length σ) σs) ≡ length (joined σs)
unfolding sum joined
sum_joined [] = refl
sum_joined (σ ∷ σs) = omega (arith, sum_joined σs, length-append σ (joined σs))
