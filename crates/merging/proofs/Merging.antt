-- Merging until none are equal gives the quotient by some classes, and leaves no two equal nodes.
-- Assumes that the states rise; with as many turns as nodes none are equal in the end.
use mathlib.Core.Path.{◌≡◌, refl, sym, ◌∙◌, ap, ap₂, subst}
use mathlib.Core.Logic.{◌⊎◌, inl, inr}
use mathlib.Core.Bool.{Bool, true, false, cond, false≢true}
use mathlib.Core.Option.{Option, none, some}
use mathlib.Core.List.{List, [], ◌∷◌}
use Prim.Native.Nat.{ℕ, zero, suc, ◌≤◌, ◌<◌}
use native.Mathlib.Omega.{arith}
use lib.ListN.{length}
use lib.Dec.{eqb}
use borrow.Author.Tests.{eq-eqb}
use Rattle.laws.proofs.Members.{In, nowhere, where_in}
use Rattle.paper.specs.Shrink.{Node, redirect, lead, twins, merge, merge_all}
use Rattle.merging.specs.Classes.{Rising, rise_cons, quotient, Class, Reduced}
use Rattle.merging.proofs.Equal.{equal_eq, twins_some, no_twins}
use Rattle.merging.proofs.Redirect.{redirect_id}
use Rattle.merging.proofs.Quotient.{in_quotient, rising_quotient, next, next_class, merge_quotient}

pub record Merged (ns ms : List Node) : Type 0 where
  pub class : ℕ → ℕ
  pub is_class : Class ns class
  pub is_quotient : ms ≡ quotient class ns

-- states tell nodes apart
pub one_state : (xs : List Node) → Rising xs → (n m : Node) → In n xs → In m xs → n.state ≡ m.state → n ≡ m
one_state [] s n m i j e = absurd (nowhere i)
one_state (x ∷ xs) (rise_cons h s) n m i j e = go (where_in i) (where_in j) (λ p q. one_state xs s n m p q e)
  where
    go : (n ≡ x) ⊎ In n xs → (m ≡ x) ⊎ In m xs → (In n xs → In m xs → n ≡ m) → n ≡ m
    go (inl p) (inl q) ih = p ∙ sym q
    go (inl p) (inr q) ih = absurd (omega (arith, h m q, e, ap (λ (z : Node). z.state) p))
    go (inr p) (inl q) ih = absurd (omega (arith, h n p, e, ap (λ (z : Node). z.state) q))
    go (inr p) (inr q) ih = ih p q

quotient_id : (xs : List Node) → quotient (λ s. s) xs ≡ xs
unfolding quotient lead
quotient_id [] = refl
quotient_id (x ∷ xs) =
    rw (eq-eqb x.state x.state refl)
    (λ i. record { state = x.state; production = x.production; rows = redirect_id x.rows i } ∷ quotient_id xs i)

module _ (ns : List Node) (r : Rising ns) where
  merge_more : (turns : ℕ) (c : ℕ → ℕ) → Class ns c → Merged ns (merge_all turns (quotient c ns))
  unfolding merge_all lead
  merge_more zero c k = record { class = c; is_class = k; is_quotient = refl }
  merge_more (suc turns) c k = go (twins (quotient c ns)) refl (merge_more turns)
    where
      go : (o : Option (ℕ × ℕ)) → twins (quotient c ns) ≡ o →
          ((d : ℕ → ℕ) → Class ns d → Merged ns (merge_all turns (quotient d ns))) →
          Merged ns (elim o [
            | none ↦ quotient c ns
            | some ab ↦ merge_all turns (merge ab.0 ab.1 (quotient c ns))
          ])
      go none e ih = record { class = c; is_class = k; is_quotient = refl }
      go (some ab) e ih =
          let p = twins_some (quotient c ns) ab.0 ab.1 e in
          let (n, in_n, e₁, root_n) = in_quotient c ns p.lower p.in_lower in
          let (m, in_m, e₂, root_m) = in_quotient c ns p.higher p.in_higher in
          let a : n.state ≡ ab.0 = ap (λ (x : Node). x.state) (sym e₁) ∙ p.state_lower in
          let b : m.state ≡ ab.1 = ap (λ (x : Node). x.state) (sym e₂) ∙ p.state_higher in
          let h = equal_eq p.lower p.higher p.equals in
          let ordered : n.state < m.state = omega (arith, p.ordered (rising_quotient c ns r), a, b) in
          let eq_production : n.production ≡ m.production =
          ap (λ (x : Node). x.production) (sym e₁) ∙ h.0 ∙ ap (λ (x : Node). x.production) e₂ in
          let eq_rows : redirect c n.rows ≡ redirect c m.rows =
          ap (λ (x : Node). x.rows) (sym e₁) ∙ h.1 ∙ ap (λ (x : Node). x.rows) e₂ in
          let more = ih (next ns c k n m in_n in_m root_n root_m ordered eq_production eq_rows)
          (next_class ns c k n m in_n in_m root_n root_m ordered eq_production eq_rows) in
          let is = merge_quotient ns c k n m in_n in_m root_n root_m ordered eq_production eq_rows ns in
          subst (λ (L : List Node). Merged ns (merge_all turns L))
          (sym (ap₂ (λ (x y : ℕ). merge x y (quotient c ns)) (sym a) (sym b) ∙ is))
          more

  each_its_own : Class ns (λ s. s)
  each_its_own = record {
    low = λ n i. omega arith;
    idem = λ n i. refl;
    home = λ n i. (n, i, refl);
    like = λ n m i j e.
        let z = one_state ns r n m i j e in
        (ap (λ (x : Node). x.production) z, ap (λ (x : Node). redirect (λ s. s) x.rows) z);
  }

  pub merge_all_good : (turns : ℕ) → Merged ns (merge_all turns ns)
  merge_all_good turns =
      let first = merge_more turns (λ s. s) each_its_own in
      subst (λ (L : List Node). Merged ns (merge_all turns L)) (quotient_id ns) first

-- ---- each turn takes a node away

merge_le : (a b : ℕ) (ns : List Node) → length (merge a b ns) ≤ length ns
unfolding merge
merge_le a b [] = omega arith
merge_le a b (n ∷ ns) = go (eqb n.state b) (merge_le a b ns)
  where
    go : (t : Bool) → length (merge a b ns) ≤ length ns →
        length (cond t (merge a b ns) (lead (λ s. cond (eqb s b) a s) n ∷ merge a b ns)) ≤ suc (length ns)
    go true ih = omega arith
    go false ih = omega arith

shorter : (a b : ℕ) (ns : List Node) (m : Node) → In m ns → m.state ≡ b → length (merge a b ns) < length ns
unfolding merge
shorter a b [] m i e = absurd (nowhere i)
shorter a b (n ∷ ns) m i e = go (eqb n.state b) refl (where_in i) (λ j. shorter a b ns m j e)
  where
    go : (t : Bool) → eqb n.state b ≡ t → (m ≡ n) ⊎ In m ns → (In m ns → length (merge a b ns) < length ns) →
        length (cond t (merge a b ns) (lead (λ s. cond (eqb s b) a s) n ∷ merge a b ns)) < suc (length ns)
    go true h j ih = omega (arith, merge_le a b ns)
    go false h (inl j) ih =
        let z : n.state ≡ b = ap (λ (x : Node). x.state) (sym j) ∙ e in
        absurd (false≢true (sym h ∙ eq-eqb n.state b z))
    go false h (inr j) ih = omega (arith, ih j)

merge_all_ends : (turns : ℕ) (ns : List Node) → length ns ≤ turns → twins (merge_all turns ns) ≡ none
unfolding merge_all twins
merge_all_ends zero [] l = refl
merge_all_ends zero (n ∷ ns) l = absurd (omega arith)
merge_all_ends (suc turns) ns l = go (twins ns) refl (merge_all_ends turns)
  where
    go : (o : Option (ℕ × ℕ)) → twins ns ≡ o →
        ((ms : List Node) → length ms ≤ turns → twins (merge_all turns ms) ≡ none) →
        twins (elim o [ none ↦ ns | some ab ↦ merge_all turns (merge ab.0 ab.1 ns) ]) ≡ none
    go none e ih = e
    go (some ab) e ih =
        let p = twins_some ns ab.0 ab.1 e in
        let less = shorter ab.0 ab.1 ns p.higher p.in_higher p.state_higher in
        ih (merge ab.0 ab.1 ns) (omega (arith, less))

pub merge_all_reduced : (turns : ℕ) (ns : List Node) → length ns ≤ turns → Reduced (merge_all turns ns)
merge_all_reduced turns ns l = no_twins (merge_all turns ns) (merge_all_ends turns ns l)
