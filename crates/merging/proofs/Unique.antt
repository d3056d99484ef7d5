-- Where some rank falls along rows, the classes whose quotient has no two equal nodes are one division only;
-- so merging gives their quotient. Assumes `Grounded`: states rise, rows lead to states of the list, a rank falls.
use mathlib.Core.Path.{◌≡◌, refl, sym, ◌∙◌, ap, subst}
use mathlib.Core.Bool.{cond}
use mathlib.Core.List.{List, [], ◌∷◌}
use Prim.Native.Nat.{ℕ, zero, suc, ◌≤◌, ◌<◌}
use native.Mathlib.Omega.{arith}
use lib.ListN.{length}
use lib.Dec.{eqb}
use Rattle.laws.proofs.Members.{In, here, there}
use Rattle.paper.specs.Shrink.{Node, redirect, lead, merge_all}
use Rattle.merging.specs.Classes.{quotient, Class, Reduced, Grounded}
use Rattle.merging.proofs.Equal.{eq_equal}
use Rattle.merging.proofs.Redirect.{redirect_over, same_redirect}
use Rattle.merging.proofs.Quotient.{quotient_in}
use Rattle.merging.proofs.Merging.{merge_all_good, merge_all_reduced}

-- nodes that agree by the classes of a reduced quotient are in one class
pub together : (ns : List Node) (d : ℕ → ℕ) → Class ns d → Reduced (quotient d ns) →
    (n m : Node) → In n ns → In m ns → n.production ≡ m.production →
    redirect d n.rows ≡ redirect d m.rows → d n.state ≡ d m.state
unfolding lead
together ns d kd red n m i j ep er =
    let (a, ia, ea) = kd.home n i in
    let (b, ib, eb) = kd.home m j in
    let ra : d a.state ≡ a.state = ap d ea ∙ kd.idem n i ∙ sym ea in
    let rb : d b.state ≡ b.state = ap d eb ∙ kd.idem m j ∙ sym eb in
    let la = kd.like n a i ia (sym (ra ∙ ea)) in
    let lb = kd.like m b j ib (sym (rb ∙ eb)) in
    let eq = eq_equal (lead d a) (lead d b) (sym la.0 ∙ ep ∙ lb.0) (sym la.1 ∙ er ∙ lb.1) in
    let z : lead d a ≡ lead d b =
    red (lead d a) (lead d b) (quotient_in d ns a ia ra) (quotient_in d ns b ib rb) eq in
    sym ea ∙ ap (λ (x : Node). x.state) z ∙ eb

module _ (ns : List Node) (rank : ℕ → ℕ) (g : Grounded ns rank) where
  module _ (c d : ℕ → ℕ) (kc : Class ns c) (kd : Class ns d) (red : Reduced (quotient d ns)) where
    -- what c holds together d holds together
    finer : (k : ℕ) (n m : Node) → In n ns → In m ns → rank n.state < k →
        c n.state ≡ c m.state → d n.state ≡ d m.state
    finer zero n m i j l e = absurd (omega arith)
    finer (suc k) n m i j l e =
        let h = kc.like n m i j e in
        let rows = redirect_over c d n.rows m.rows (λ x y p q t.
        let (n', i', e₁) = g.closed n i x p in
        let (m', j', e₂) = g.closed m j y q in
        let less : rank n'.state < k = omega (arith, g.falls n i x p, ap rank e₁) in
        ap d (sym e₁) ∙ finer k n' m' i' j' less (ap c e₁ ∙ t ∙ ap c (sym e₂)) ∙ ap d e₂) h.1 in
        together ns d kd red n m i j h.0 rows

    -- so d's lowest is no higher than c's
    no_higher : (n : Node) → In n ns → d n.state ≤ c n.state
    no_higher n i =
        let (m, j, e) = kc.home n i in
        let z : d n.state ≡ d m.state =
        finer (suc (rank n.state)) n m i j (omega arith) (sym (ap c e ∙ kc.idem n i)) in
        omega (arith, kd.low m j, z, e)

  pub one_division : (c d : ℕ → ℕ) → Class ns c → Class ns d → Reduced (quotient c ns) → Reduced (quotient d ns) →
      (n : Node) → In n ns → c n.state ≡ d n.state
  one_division c d kc kd rc rd n i = omega (arith, no_higher c d kc kd rd n i, no_higher d c kd kc rc n i)

  same_quotient : (c d : ℕ → ℕ) → ((n : Node) → In n ns → c n.state ≡ d n.state) →
      (xs : List Node) → ((x : Node) → In x xs → In x ns) → quotient c xs ≡ quotient d xs
  unfolding quotient lead
  same_quotient c d h [] sub = refl
  same_quotient c d h (x ∷ xs) sub =
      let i = sub x here in
      let rows = same_redirect c d x.rows (λ o k.
      let (m, l, f) = g.closed x i o k in
      ap c (sym f) ∙ h m l ∙ ap d f) in
      let e : lead c x ≡ lead d x = λ j. record { state = x.state; production = x.production; rows = rows j } in
      let more = same_quotient c d h xs (λ y k. sub y (there k)) in
      λ j. cond (eqb (h x i j) x.state) (e j ∷ more j) (more j)

  pub merging_is : (turns : ℕ) → length ns ≤ turns → (d : ℕ → ℕ) → Class ns d → Reduced (quotient d ns) →
      merge_all turns ns ≡ quotient d ns
  merging_is turns enough d kd rd =
      let m = merge_all_good ns g.rises turns in
      let rc : Reduced (quotient m.class ns) = subst Reduced m.is_quotient (merge_all_reduced turns ns enough) in
      m.is_quotient ∙ same_quotient m.class d (one_division m.class d m.is_class kd rc rd) ns (λ x i. i)
