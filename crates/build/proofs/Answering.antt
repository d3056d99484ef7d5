-- Build in its parts: 1, 2, then the strings and 14.
-- Assumes nothing.
use mathlib.Core.Path.{◌≡◌, refl}
use mathlib.Core.Bool.{true, false}
use mathlib.Core.List.{List, [], ◌∷◌}
use Prim.Native.Nat.{ℕ}
use native.Mathlib.Omega.{arith}
use lib.ListN.{length}
use lib.IntN.{ℤ, pos}
use Rattle.std.specs.Prelude.{Result, Ok, Err}
use Rattle.paper.specs.declared.Heading.{Heading}
use Rattle.paper.specs.declared.Refusal.{Refusal}
use Rattle.paper.specs.declared.Refusal.TheVariants as refusal
use Rattle.paper.specs.Rows.{natural}
use Rattle.paper.specs.Answers.{Makes}
use Rattle.paper.specs.Build.{within, built, strings, build_lengths, build_range, build}

-- no strings: state 0 alone, which accepts
pub alone : (q : ℕ) (ts ns : List ℕ) (p : ℤ) (old : List ℤ) → length ns ≡ 0 → p ≡ pos q
    → Makes (within (built q (strings ns ts))) (Ok (record { prod0 = p; k = 0; rows = 0; states = 1 })) old old
unfolding within built strings
alone q ts [] p old e d = rw d (record { says = refl; holds = refl })
alone q ts (n ∷ ns) p old e d = absurd (omega (arith, e))

module _ (p : ℤ) (ts ns : List ℕ) (room : ℕ) (old : List ℤ) where
  pub refused_lengths : build_lengths ts ns room ≡ true
      → Makes (build p ts ns room) (Err refusal.Length) old old
  unfolding build
  refused_lengths e = rw e (record { says = refl; holds = refl })

  module _ (a : build_lengths ts ns room ≡ false) where
    pub refused_range : build_range p ns ≡ true → Makes (build p ts ns room) (Err refusal.Range) old old
    unfolding build
    refused_range e = rw (a, e) (record { says = refl; holds = refl })

    pub accepted : build_range p ns ≡ false → (q : ℕ) → q ≡ natural p → (r : Result Heading Refusal) (new : List ℤ)
        → Makes (within (built q (strings ns ts))) r old new → Makes (build p ts ns room) r old new
    unfolding build
    accepted e q d r new m = rw (a, e, ← d) m
