-- Merging is the quotient by marks. Assumes of the nodes that states rise, rows lead to states of the list and
-- some rank falls along them; and of the marks that two nodes have one mark exactly when their productions and,
-- by marks, their rows are equal.
use mathlib.Core.Path.{◌≡◌, refl, sym, ◌∙◌, ap}
use mathlib.Core.List.{List}
use Prim.Native.Nat.{ℕ, ◌≤◌}
use lib.ListN.{length}
use Rattle.laws.proofs.Members.{In}
use Rattle.paper.specs.Shrink.{Node, redirect, lead, merge_all}
use Rattle.merging.specs.Numbers.{Ascending}
use Rattle.merging.specs.Classes.{quotient, Class, Reduced, Grounded}
use Rattle.merging.specs.Marks.{lowest_of}
use Rattle.merging.proofs.Equal.{equal_eq}
use Rattle.merging.proofs.Redirect.{redirect_over}
use Rattle.merging.proofs.Quotient.{in_quotient}
use Rattle.merging.proofs.Merging.{one_state}
use Rattle.merging.proofs.Unique.{merging_is}
use Rattle.merging.proofs.Ends.{Lowest, lowest}

-- Marks of nodes.
pub record NodeMarks (ns : List Node) (mark : ℕ → ℕ) : Type 0 where
  pub one : (n m : Node) → In n ns → In m ns → mark n.state ≡ mark m.state →
      (n.production ≡ m.production) × (redirect mark n.rows ≡ redirect mark m.rows)
  pub two : (n m : Node) → In n ns → In m ns → n.production ≡ m.production →
      redirect mark n.rows ≡ redirect mark m.rows → mark n.state ≡ mark m.state

-- the lowest states may be looked for among more states than the nodes have, where they are nodes' all the same
module _ (ns : List Node) (rank : ℕ → ℕ) (g : Grounded ns rank) (mark : ℕ → ℕ) (k : NodeMarks ns mark)
    (ss : List ℕ) (a : Ascending ss) (sub : (n : Node) → In n ns → In n.state ss)
    (stays : (n : Node) → In n ns → (m : Node) × In m ns × (m.state ≡ lowest_of mark ss (mark n.state))) where
  abbrev c : ℕ → ℕ
  c s = lowest_of mark ss (mark s)

  low : (n : Node) → In n ns → Lowest mark ss (mark n.state) (c n.state)
  low n i = lowest mark ss a n.state (mark n.state) (sub n i) refl

  -- the lowest states and the marks hold the same together
  up : (n m : Node) → In n ns → In m ns → mark n.state ≡ mark m.state → c n.state ≡ c m.state
  up n m i j e = ap (lowest_of mark ss) e

  down : (n m : Node) → In n ns → In m ns → c n.state ≡ c m.state → mark n.state ≡ mark m.state
  down n m i j e = sym (low n i).marked ∙ ap mark e ∙ (low m j).marked

  rows_by : (f h : ℕ → ℕ) (n m : Node) → In n ns → In m ns →
      ((x y : Node) → In x ns → In y ns → f x.state ≡ f y.state → h x.state ≡ h y.state) →
      redirect f n.rows ≡ redirect f m.rows → redirect h n.rows ≡ redirect h m.rows
  rows_by f h n m i j over = redirect_over f h n.rows m.rows (λ o p q r e.
      let (x, ix, ex) = g.closed n i o q in
      let (y, iy, ey) = g.closed m j p r in
      ap h (sym ex) ∙ over x y ix iy (ap f ex ∙ e ∙ ap f (sym ey)) ∙ ap h ey)

  marks_class : Class ns c
  marks_class = record {
    low = λ n i. (low n i).low n.state (sub n i) refl;
    idem = λ n i. ap (lowest_of mark ss) (low n i).marked;
    home = λ n i. stays n i;
    like = λ n m i j e. let h = k.one n m i j (down n m i j e) in (h.0, rows_by mark c n m i j up h.1);
  }

  marks_reduced : Reduced (quotient c ns)
  unfolding lead
  marks_reduced x y i j e =
      let (n, in_n, e₁, root_n) = in_quotient c ns x i in
      let (m, in_m, e₂, root_m) = in_quotient c ns y j in
      let h = equal_eq x y e in
      let production : n.production ≡ m.production =
      ap (λ (z : Node). z.production) (sym e₁) ∙ h.0 ∙ ap (λ (z : Node). z.production) e₂ in
      let rows : redirect c n.rows ≡ redirect c m.rows =
      ap (λ (z : Node). z.rows) (sym e₁) ∙ h.1 ∙ ap (λ (z : Node). z.rows) e₂ in
      let marks = k.two n m in_n in_m production (rows_by c mark n m in_n in_m down rows) in
      let state : n.state ≡ m.state = sym root_n ∙ up n m in_n in_m marks ∙ root_m in
      e₁ ∙ ap (lead c) (one_state ns g.rises n m in_n in_m state) ∙ sym e₂

  pub by_marks_among : (turns : ℕ) → length ns ≤ turns →
      merge_all turns ns ≡ quotient (λ s. lowest_of mark ss (mark s)) ns
  by_marks_among turns enough = merging_is ns rank g turns enough c marks_class marks_reduced
