-- Two nodes are equal exactly when their productions and rows are; where no twins are found none are equal.
-- Assumes nothing.
use mathlib.Core.Path.{◌≡◌, refl, sym, ◌∙◌, ap}
use mathlib.Core.Logic.{◌⊎◌, inl, inr}
use mathlib.Core.Bool.{Bool, true, false, cond, ◌&&◌, and-eq-true_iff, false≢true}
use mathlib.Core.Option.{Option, none, some}
use mathlib.Core.List.{List, [], ◌∷◌}
use Prim.Native.Nat.{ℕ, ◌<◌}
use native.Mathlib.Omega.{arith}
use lib.Dec.{eqb}
use borrow.Author.Tests.{eq-eqb, eqb-true}
use Rattle.laws.proofs.Tests.{never}
use Rattle.laws.proofs.Productions.{same_production_eq, same_production_refl}
use Rattle.laws.proofs.Members.{In, here, there, nowhere, where_in}
use Rattle.paper.specs.Checks.{same_production}
use Rattle.paper.specs.Shrink.{Node, same_rows, equal, twin, twins}
use Rattle.merging.specs.Classes.{Rising, rise_cons, Reduced}

same_rows_eq : (x y : List (ℕ × ℕ)) → same_rows x y ≡ true → x ≡ y
unfolding same_rows
same_rows_eq [] [] e = refl
same_rows_eq [] (y ∷ ys) e = absurd (false≢true e)
same_rows_eq (x ∷ xs) [] e = absurd (false≢true e)
same_rows_eq (x ∷ xs) (y ∷ ys) e =
    let h = (and-eq-true_iff (eqb x.0 y.0 && eqb x.1 y.1) (same_rows xs ys)).0 e in
    let k = (and-eq-true_iff (eqb x.0 y.0) (eqb x.1 y.1)).0 h.0 in
    let a : x.0 ≡ y.0 = eqb-true x.0 y.0 k.0 in
    let b : x.1 ≡ y.1 = eqb-true x.1 y.1 k.1 in
    λ i. (a i, b i) ∷ same_rows_eq xs ys h.1 i

same_rows_refl : (x : List (ℕ × ℕ)) → same_rows x x ≡ true
unfolding same_rows
same_rows_refl [] = refl
same_rows_refl (x ∷ xs) = rw (eq-eqb x.0 x.0 refl, eq-eqb x.1 x.1 refl) (same_rows_refl xs)

pub equal_eq : (x y : Node) → equal x y ≡ true → (x.production ≡ y.production) × (x.rows ≡ y.rows)
unfolding equal
equal_eq x y e =
    let h = (and-eq-true_iff (same_production x.production y.production) (same_rows x.rows y.rows)).0 e in
    (same_production_eq x.production y.production h.0, same_rows_eq x.rows y.rows h.1)

pub eq_equal : (x y : Node) → x.production ≡ y.production → x.rows ≡ y.rows → equal x y ≡ true
unfolding equal
eq_equal x y e f = rw (e, f, same_production_refl) (same_rows_refl y.rows)

equal_sym : (x y : Node) → equal x y ≡ true → equal y x ≡ true
equal_sym x y e = let h = equal_eq x y e in eq_equal y x (sym h.0) (sym h.1)

-- ---- twins

twin_some : (x : Node) (ns : List Node) (b : ℕ) → twin x ns ≡ some b →
    (y : Node) × In y ns × (equal x y ≡ true) × (y.state ≡ b)
unfolding twin
twin_some x [] b e = absurd (never e)
twin_some x (n ∷ ns) b e = go (equal x n) refl e (twin_some x ns b)
  where
    Found : List Node → Type 0
    Found ms = (y : Node) × In y ms × (equal x y ≡ true) × (y.state ≡ b)

    go : (c : Bool) → equal x n ≡ c → cond c (some n.state) (twin x ns) ≡ some b →
        (twin x ns ≡ some b → Found ns) → Found (n ∷ ns)
    go true h k ih = (n, here, h, cc)
    go false h k ih = let (y, i, f, g) = ih k in (y, there i, f, g)

twin_none : (x : Node) (ns : List Node) → twin x ns ≡ none → (y : Node) → In y ns → equal x y ≡ true → ⊥
unfolding twin
twin_none x [] e y m h = nowhere m
twin_none x (n ∷ ns) e y m h = go (equal x n) refl e (λ k i. twin_none x ns k y i h) (where_in m)
  where
    go : (c : Bool) → equal x n ≡ c → cond c (some n.state) (twin x ns) ≡ none →
        (twin x ns ≡ none → In y ns → ⊥) → (y ≡ n) ⊎ In y ns → ⊥
    go true k l ih i = never (sym l)
    go false k l ih (inl i) = false≢true (sym k ∙ ap (equal x) (sym i) ∙ h)
    go false k l ih (inr i) = ih l i

-- two equal nodes of a list, as `twins` finds them
pub record Twins (ns : List Node) (a b : ℕ) : Type 0 where
  pub lower : Node
  pub higher : Node
  pub in_lower : In lower ns
  pub in_higher : In higher ns
  pub equals : equal lower higher ≡ true
  pub state_lower : lower.state ≡ a
  pub state_higher : higher.state ≡ b
  pub ordered : Rising ns → a < b

first_lowest : {n : Node} {ns : List Node} → Rising (n ∷ ns) → (m : Node) → In m ns → n.state < m.state
first_lowest (rise_cons h r) = h

rest_rises : {n : Node} {ns : List Node} → Rising (n ∷ ns) → Rising ns
rest_rises (rise_cons h r) = r

pub twins_some : (ns : List Node) (a b : ℕ) → twins ns ≡ some (a, b) → Twins ns a b
unfolding twins
twins_some [] a b e = absurd (never e)
twins_some (n ∷ ns) a b e = go (twin n ns) refl e (twins_some ns a b)
  where
    go : (o : Option ℕ) → twin n ns ≡ o →
        ◌≡◌ {A = Option (ℕ × ℕ)} (elim o [ some b ↦ some (n.state, b) | none ↦ twins ns ]) (some (a, b)) →
        (twins ns ≡ some (a, b) → Twins ns a b) → Twins (n ∷ ns) a b
    go none k l ih = let p = ih l in record {
      lower = p.lower;
      higher = p.higher;
      in_lower = there p.in_lower;
      in_higher = there p.in_higher;
      equals = p.equals;
      state_lower = p.state_lower;
      state_higher = p.state_higher;
      ordered = λ r. p.ordered (rest_rises r);
    }
    go (some c) k l ih =
        let (y, i, h, z) = twin_some n ns c k in
        let pair : ◌≡◌ {A = ℕ × ℕ} (n.state, c) (a, b) = cc in
        let e₁ : n.state ≡ a = ap (λ (q : ℕ × ℕ). q.0) pair in
        let e₂ : c ≡ b = ap (λ (q : ℕ × ℕ). q.1) pair in
        record {
          lower = n;
          higher = y;
          in_lower = here;
          in_higher = there i;
          equals = h;
          state_lower = e₁;
          state_higher = z ∙ e₂;
          ordered = λ r. omega (arith, first_lowest r y i, e₁, e₂, z);
        }

pub no_twins : (ns : List Node) → twins ns ≡ none → Reduced ns
unfolding twins
no_twins [] e x y i j h = absurd (nowhere i)
no_twins (n ∷ ns) e x y i j h = go (twin n ns) refl e (λ l p q. no_twins ns l x y p q h) (where_in i) (where_in j)
  where
    go : (o : Option ℕ) → twin n ns ≡ o →
        ◌≡◌ {A = Option (ℕ × ℕ)} (elim o [ some b ↦ some (n.state, b) | none ↦ twins ns ]) none →
        (twins ns ≡ none → In x ns → In y ns → x ≡ y) → (x ≡ n) ⊎ In x ns → (y ≡ n) ⊎ In y ns → x ≡ y
    go (some b) k l ih p q = absurd (never (sym l))
    go none k l ih (inl p) (inl q) = p ∙ sym q
    go none k l ih (inl p) (inr q) = absurd (twin_none n ns k y q (ap (λ (z : Node). equal z y) (sym p) ∙ h))
    go none k l ih (inr p) (inl q) =
        absurd (twin_none n ns k x p (ap (λ (z : Node). equal z x) (sym q) ∙ equal_sym x y h))
    go none k l ih (inr p) (inr q) = ih l p q
