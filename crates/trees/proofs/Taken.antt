-- The production that a matched state takes, in either mode: the merged one, unless both accept under different
-- numbers. Assumes nothing.
use mathlib.Core.Path.{◌≡◌, refl}
use mathlib.Core.Bool.{true, cond}
use mathlib.Core.Option.{Option, none, some}
use mathlib.Core.List.{[], ◌∷◌}
use Prim.Native.Nat.{ℕ}
use lib.Dec.{eqb}
use Rattle.laws.proofs.Tests.{Test, same, apart, test, never}
use Rattle.paper.specs.declared.Mode.{Mode}
use Rattle.paper.specs.declared.Mode.TheVariants.{Archive, Intake}
use Rattle.paper.specs.Answers.{Ruling, accept, refuse, then}
use Rattle.paper.specs.Checks.{production_fits}
use Rattle.paper.specs.Predict.{or_else}
use Rattle.paper.specs.Unite.{agree, taken, root}
use Rattle.trees.specs.Views.{merge, seen}

-- What comes of two productions p and q, and what of them is then known.
pub data Met (mode : Mode) (p q : Option ℕ) : Ruling (Option ℕ) → Type 0 where
  met : ((a b : ℕ) → p ≡ some a → q ≡ some b → a ≡ b) → Met mode p q (accept (merge mode p q))
  unmet : {a b : ℕ} → p ≡ some a → q ≡ some b → (a ≡ b → ⊥) → Met mode p q (refuse 8 (a ∷ b ∷ []))

pub taken_met : (mode : Mode) (p q : Option ℕ) → Met mode p q (taken mode p q)
unfolding taken agree merge or_else
taken_met Intake none none = met (λ a b e f. absurd (never e))
taken_met Intake none (some q) = met (λ a b e f. absurd (never e))
taken_met Intake (some p) none = met (λ a b e f. absurd (never f))
taken_met Intake (some p) (some q) = go (test p q)
  where
    go : Test p q (eqb p q) → Met Intake (some p) (some q) (cond (eqb p q) (accept (some q)) (refuse 8 (p ∷ q ∷ [])))
    go (same h e) = rw e (met (λ a b k l. cc))
    go (apart h e) = rw e (unmet refl refl h)
taken_met Archive none none = met (λ a b e f. absurd (never e))
taken_met Archive none (some q) = met (λ a b e f. absurd (never e))
taken_met Archive (some p) none = met (λ a b e f. absurd (never f))
taken_met Archive (some p) (some q) = go (test p q)
  where
    go : Test p q (eqb p q) → Met Archive (some p) (some q)
        (then (cond (eqb p q) (accept (some q)) (refuse 8 (p ∷ q ∷ []))) (λ _. accept (some q)))
    go (same h e) = rw e (met (λ a b k l. cc))
    go (apart h e) = rw e (unmet refl refl h)

-- State 0: in archive the second's production does not count.
pub root_met : (mode : Mode) (p q : Option ℕ) → Met mode p (seen mode p q) (root mode p q)
unfolding root seen merge taken
root_met Archive p q = met (λ a b e f. cc)
root_met Intake p q = taken_met Intake p q

pub merge_fits : (mode : Mode) (p q : Option ℕ) → production_fits p ≡ true → production_fits q ≡ true →
    production_fits (merge mode p q) ≡ true
unfolding merge or_else
merge_fits Archive p q h k = k
merge_fits Intake p none h k = h
merge_fits Intake p (some q) h k = k
