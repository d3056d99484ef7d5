-- Marks exist: merging gives them. Assumes that the table's rows climb (`shape` does not refuse).
use mathlib.Core.Path.{◌≡◌, refl, sym, ◌∙◌, ap, subst}
use mathlib.Core.Bool.{true, false, false≢true}
use mathlib.Core.Option.{Option, none, some}
use Prim.Native.Nat.{ℕ}
use lib.ListN.{length}
use Rattle.laws.proofs.Members.{In}
use Rattle.paper.specs.declared.Mode.{Mode}
use Rattle.paper.specs.declared.Mode.TheVariants.{Archive, Intake}
use Rattle.paper.specs.Rows.{Table}
use Rattle.paper.specs.Checks.{shape}
use Rattle.paper.specs.Shrink.{Node, nodes, redirect, becomes, gather, gathered}
use Rattle.merging.specs.Classes.{quotient, Class, Reduced, Climbing}
use Rattle.merging.specs.Marks.{compared, Alike, Marks}
use Rattle.merging.proofs.Redirect.{redirect_redirect}
use Rattle.merging.proofs.Merging.{merge_all_good, merge_all_reduced}
use Rattle.merging.proofs.Unique.{together}
use Rattle.merging.proofs.Gathered.{gathered_grounded, gathered_le, Became, became, becomes_accepting}
use Rattle.merging.proofs.Ruled.{P, R, ss, node_at, nodes_in, nodes_climb}

module _ (t : Table) (climbs : shape t ≡ false) where
  up : Climbing (nodes t)
  up = nodes_climb t climbs

  -- classes of the gathered nodes whose quotient has no equal nodes
  pub record Divided (mode : Mode) : Type 0 where
    pub class : ℕ → ℕ
    pub is_class : Class (gathered mode (nodes t)) class
    pub reduced : Reduced (quotient class (gathered mode (nodes t)))

  divided : (mode : Mode) → Divided mode
  divided mode =
      let turns = length (nodes t) in
      let m = merge_all_good (gathered mode (nodes t)) (gathered_grounded (nodes t) up mode).rises turns in
      let end = merge_all_reduced turns (gathered mode (nodes t)) (gathered_le (nodes t) up mode) in
      record { class = m.class; is_class = m.is_class; reduced = subst Reduced m.is_quotient end }

  intake_marks : (d : Divided Intake) → Marks Intake t d.class
  unfolding gathered compared
  intake_marks d = record {
    one = λ a b i j e.
        let h = d.is_class.like (node_at t a) (node_at t b) (nodes_in t a i) (nodes_in t b j) e in
        record { production = h.0; rows = λ _. h.1 };
    two = λ a b i j h.
        together (nodes t) d.class d.is_class d.reduced (node_at t a) (node_at t b) (nodes_in t a i)
        (nodes_in t b j) h.production (h.rows refl);
  }

  module _ (d : Divided Archive) where
    abbrev mark : ℕ → ℕ
    mark s = d.class (becomes (nodes t) s)

    got : (s : ℕ) → In s (ss t) → (x : Node) × Became (nodes t) up (node_at t s) x
    got s i = became (nodes t) up (node_at t s) (nodes_in t s i)

    -- the rows of a state that does not accept, by marks, are those of the node it becomes, by classes
    rows_by : (s : ℕ) (x : Node) → Became (nodes t) up (node_at t s) x → P t s ≡ none →
        redirect d.class x.rows ≡ redirect mark (R t s)
    rows_by s x b e = ap (redirect d.class) (b.rows e) ∙ redirect_redirect d.class (becomes (nodes t)) (R t s)

    counts : (s : ℕ) → compared Archive (P t s) ≡ true → P t s ≡ none
    unfolding compared
    counts s h = go (P t s) refl
      where
        go : (o : Option ℕ) → P t s ≡ o → P t s ≡ none
        go none e = e
        go (some q) e = absurd (false≢true (ap (compared Archive) (sym e) ∙ h))

    archive_marks : Marks Archive t mark
    unfolding gathered compared
    archive_marks = record { one = one; two = two }
      where
        one : (a b : ℕ) → In a (ss t) → In b (ss t) → mark a ≡ mark b → Alike Archive t mark a b
        one a b i j e =
            let (x, f) = got a i in
            let (y, g) = got b j in
            let same = ap d.class f.state ∙ e ∙ ap d.class (sym g.state) in
            let h = d.is_class.like x y f.is_in g.is_in same in
            let production : P t a ≡ P t b = sym f.production ∙ h.0 ∙ g.production in
            record {
              production = production;
              rows = λ z.
                  let plain = counts a z in
                  sym (rows_by a x f plain) ∙ h.1 ∙ rows_by b y g (sym production ∙ plain);
            }

        two : (a b : ℕ) → In a (ss t) → In b (ss t) → Alike Archive t mark a b → mark a ≡ mark b
        two a b i j h = go (P t a) refl
          where
            go : (o : Option ℕ) → P t a ≡ o → mark a ≡ mark b
            go none e =
                let (x, f) = got a i in
                let (y, g) = got b j in
                let rows = rows_by a x f e ∙ h.rows (ap (compared Archive) e)
                ∙ sym (rows_by b y g (sym h.production ∙ e)) in
                let production : x.production ≡ y.production = f.production ∙ h.production ∙ sym g.production in
                ap d.class (sym f.state)
                ∙ together (gather (nodes t) (nodes t)) d.class d.is_class d.reduced x y f.is_in g.is_in
                production rows
                ∙ ap d.class g.state
            go (some q) e =
                let low_a = becomes_accepting (nodes t) up (node_at t a) q (nodes_in t a i) e in
                let own_b = sym h.production ∙ e in
                let low_b = becomes_accepting (nodes t) up (node_at t b) q (nodes_in t b j) own_b in
                ap d.class (low_a ∙ sym low_b)

  pub marks_exist : (mode : Mode) → (mark : ℕ → ℕ) × Marks mode t mark
  marks_exist Intake = let d = divided Intake in (d.class, intake_marks d)
  marks_exist Archive = let d = divided Archive in ((λ s. d.class (becomes (nodes t) s)), archive_marks d)
