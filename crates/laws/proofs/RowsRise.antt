-- Rows rise exactly when each stands before all that follow it; so do two lists, one after the other.
-- Assumes nothing.
use mathlib.Core.Path.{◌≡◌, refl, sym, ◌∙◌, subst}
use mathlib.Core.Logic.{⊎_elim, ◌⊎◌, inl, inr}
use mathlib.Core.Bool.{true, ◌&&◌}
use mathlib.Core.List.Memᴰ
use mathlib.Core.List.{List, [], ◌∷◌, ◌++◌}
use Prim.Native.Nat.{◌<◌}
use native.Mathlib.Omega.{arith}
use lib.Dec.{eqb, ltb}
use borrow.Author.Tests.{ltb-true, eqb-true, lt-ltb, eq-eqb}
use Rattle.laws.proofs.Every.{both, first_of, second_of, or_cases, or_left, or_right}
use Rattle.laws.proofs.Members.{In, here, there, nowhere, where_in}
use Rattle.paper.specs.Rows.{Row}
use Rattle.paper.specs.Checks.{before, rising}

abbrev pub Before : Row → Row → Type 0
Before a b = (a.from < b.from) ⊎ ((a.from ≡ b.from) × (a.terminal < b.terminal))

pub data RowsRise : List Row → Type 0 where
  rows_nil : RowsRise []
  rows_cons : {r : Row} {rs : List Row} → ((x : Row) → In x rs → Before r x) → RowsRise rs → RowsRise (r ∷ rs)

pub before_trans : (a b c : Row) → Before a b → Before b c → Before a c
before_trans a b c (inl p) (inl q) = inl (omega arith)
before_trans a b c (inl p) (inr q) = inl (omega (arith, q.0))
before_trans a b c (inr p) (inl q) = inl (omega (arith, p.0))
before_trans a b c (inr p) (inr q) = inr (p.0 ∙ q.0, omega (arith, p.1, q.1))

pub not_before_itself : (a b : Row) → Before a b → (b.from ≡ a.from) × (b.terminal ≡ a.terminal) → ⊥
not_before_itself a b (inl p) q = omega (arith, q.0)
not_before_itself a b (inr p) q = omega (arith, p.1, q.1)

before_true : (a b : Row) → Before a b → before a b ≡ true
unfolding before
before_true a b (inl p) = or_left (ltb a.from b.from) _ (lt-ltb a.from b.from p)
before_true a b (inr p) = or_right (ltb a.from b.from) _
    (both _ _ (eq-eqb a.from b.from p.0) (lt-ltb a.terminal b.terminal p.1))

true_before : (a b : Row) → before a b ≡ true → Before a b
unfolding before
true_before a b e = ⊎_elim
    (λ p. inl (ltb-true a.from b.from p))
    (λ p. inr (
      eqb-true a.from b.from (first_of (eqb a.from b.from) (ltb a.terminal b.terminal) p),
      ltb-true a.terminal b.terminal (second_of (eqb a.from b.from) (ltb a.terminal b.terminal) p),
    ))
    (or_cases (ltb a.from b.from) (eqb a.from b.from && ltb a.terminal b.terminal) e)

pub rise_rising : (rs : List Row) → RowsRise rs → rising rs ≡ true
unfolding rising
rise_rising [] h = refl
rise_rising (a ∷ []) h = refl
rise_rising (a ∷ b ∷ rs) (rows_cons h k) =
    both (before a b) (rising (b ∷ rs)) (before_true a b (h b here)) (rise_rising (b ∷ rs) k)

pub rising_rise : (rs : List Row) → rising rs ≡ true → RowsRise rs
unfolding rising
rising_rise [] e = rows_nil
rising_rise (a ∷ []) e = rows_cons (λ x i. absurd (nowhere i)) rows_nil
rising_rise (a ∷ b ∷ rs) e =
    go (true_before a b (first_of (before a b) (rising (b ∷ rs)) e))
    (rising_rise (b ∷ rs) (second_of (before a b) (rising (b ∷ rs)) e))
  where
    go : Before a b → RowsRise (b ∷ rs) → RowsRise (a ∷ b ∷ rs)
    go p (rows_cons h k) = rows_cons
        (λ x i. ⊎_elim
        (λ z. subst (λ (y : Row). Before a y) (sym z) p)
        (λ j. before_trans a b x p (h x j))
        (where_in i))
        (rows_cons h k)

pub rise_append : (xs ys : List Row) → RowsRise xs → RowsRise ys →
    ((x y : Row) → In x xs → In y ys → Before x y) → RowsRise (xs ++ ys)
rise_append [] ys a b h = b
rise_append (x ∷ xs) ys (rows_cons k a) b h = rows_cons
    (λ y i. ⊎_elim (λ j. k y j) (λ j. h x y here j) (Memᴰ.append_cases xs i))
    (rise_append xs ys a b (λ p q i j. h p q (there i) j))
