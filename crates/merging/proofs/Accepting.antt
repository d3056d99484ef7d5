-- The lowest and the highest node that accept one production. Assumes that the states rise.
use mathlib.Core.Path.{◌≡◌, refl, sym, ◌∙◌, ap}
use mathlib.Core.Logic.{⊎_elim, ◌⊎◌, inl, inr}
use mathlib.Core.Bool.{Bool, true, false, cond, false≢true}
use mathlib.Core.Option.{some}
use mathlib.Core.List.{List, [], ◌∷◌}
use Prim.Native.Nat.{ℕ, ◌≤◌}
use native.Mathlib.Omega.{arith}
use lib.Dec.{eqb}
use borrow.Author.Tests.{eq-eqb, ne_eqb}
use Rattle.laws.proofs.Members.{In, here, there, nowhere, where_in}
use Rattle.laws.proofs.Productions.{same_production_eq, same_production_refl}
use Rattle.paper.specs.Shrink.{Node, accepts, lowest, highest_rows, node_production}
use Rattle.merging.specs.Classes.{Rising, rise_cons}

pub accepts_yes : (q : ℕ) (n : Node) → n.production ≡ some q → accepts q n ≡ true
unfolding accepts
accepts_yes q n e = rw e (same_production_refl (some q))

accepts_is : (q : ℕ) (n : Node) → accepts q n ≡ true → n.production ≡ some q
unfolding accepts
accepts_is q n e = same_production_eq n.production (some q) e

-- the first node that accepts q
pub record First (q : ℕ) (ns : List Node) : Type 0 where
  pub node : Node
  pub is_in : In node ns
  pub state : node.state ≡ lowest q ns
  pub production : node.production ≡ some q
  pub low : (m : Node) → In m ns → m.production ≡ some q → node.state ≤ m.state

pub first_node : (q : ℕ) (ns : List Node) → Rising ns → (n : Node) → In n ns → n.production ≡ some q → First q ns
unfolding lowest
first_node q [] r n i e = absurd (nowhere i)
first_node q (x ∷ ns) (rise_cons l r) n i e =
    go (accepts q x) refl (where_in i) (λ j. first_node q ns r n j e)
  where
    go : (b : Bool) → accepts q x ≡ b → (n ≡ x) ⊎ In n ns → (In n ns → First q ns) → First q (x ∷ ns)
    go true k j ih = record {
      node = x;
      is_in = here;
      state = rw k;
      production = accepts_is q x k;
      low = λ m i _. ⊎_elim
          (λ z. omega (arith, ap (λ (y : Node). y.state) z))
          (λ z. omega (arith, l m z))
          (where_in i);
    }
    go false k (inl j) ih =
        let z : x.production ≡ some q = ap (λ (y : Node). y.production) (sym j) ∙ e in
        absurd (false≢true (sym k ∙ accepts_yes q x z))
    go false k (inr j) ih = let f = ih j in record {
      node = f.node;
      is_in = there f.is_in;
      state = rw k f.state;
      production = f.production;
      low = λ m i p. ⊎_elim
          (λ z. absurd (false≢true (sym k ∙ accepts_yes q x (ap (λ (y : Node). y.production) (sym z) ∙ p))))
          (λ z. f.low m z p)
          (where_in i);
    }

-- the state of the last node that accepts q, d where there is none
pub top_of : ℕ → ℕ → List Node → ℕ
top_of q d [] = d
top_of q d (n ∷ ns) = top_of q (cond (accepts q n) n.state d) ns

-- the last node that accepts q, or what stood before the list
pub data Last (q d : ℕ) (os : List (ℕ × ℕ)) (ns : List Node) : Type 0 where
  last_node : (h : Node) → In h ns → h.production ≡ some q → top_of q d ns ≡ h.state →
      highest_rows q os ns ≡ h.rows → ((m : Node) → In m ns → m.production ≡ some q → m.state ≤ h.state) →
      Last q d os ns
  no_node : top_of q d ns ≡ d → highest_rows q os ns ≡ os → ((m : Node) → In m ns → m.production ≡ some q → ⊥) →
      Last q d os ns

pub last_of : (q d : ℕ) (os : List (ℕ × ℕ)) (ns : List Node) → Rising ns → Last q d os ns
unfolding top_of highest_rows
last_of q d os [] r = no_node refl refl (λ m i e. nowhere i)
last_of q d os (n ∷ ns) (rise_cons h r) = go (accepts q n) refl (λ d os. last_of q d os ns r)
  where
    tops : (b : Bool) → accepts q n ≡ b → top_of q d (n ∷ ns) ≡ top_of q (cond b n.state d) ns
    tops b k = ap (λ (t : Bool). top_of q (cond t n.state d) ns) k

    rows : (b : Bool) → accepts q n ≡ b → highest_rows q os (n ∷ ns) ≡ highest_rows q (cond b n.rows os) ns
    rows b k = ap (λ (t : Bool). highest_rows q (cond t n.rows os) ns) k

    more : (b : Bool) → accepts q n ≡ b → Last q (cond b n.state d) (cond b n.rows os) ns → Last q d os (n ∷ ns)
    more b k (last_node x i p e f g) = last_node x (there i) p (tops b k ∙ e) (rows b k ∙ f) (λ m j s. ⊎_elim
        (λ z. omega (arith, h x i, ap (λ (y : Node). y.state) z))
        (λ z. g m z s)
        (where_in j))
    more true k (no_node e f g) =
        last_node n here (accepts_is q n k) (tops true k ∙ e) (rows true k ∙ f) (λ m j s. ⊎_elim
        (λ z. omega (arith, ap (λ (y : Node). y.state) z))
        (λ z. absurd (g m z s))
        (where_in j))
    more false k (no_node e f g) = no_node (tops false k ∙ e) (rows false k ∙ f) (λ m j s. ⊎_elim
        (λ z. false≢true (sym k ∙ accepts_yes q n (ap (λ (y : Node). y.production) (sym z) ∙ s)))
        (λ z. g m z s)
        (where_in j))

    go : (b : Bool) → accepts q n ≡ b → ((d : ℕ) (os : List (ℕ × ℕ)) → Last q d os ns) → Last q d os (n ∷ ns)
    go b k ih = more b k (ih (cond b n.state d) (cond b n.rows os))

-- a node's production is found by its state
pub production_at : (ms : List Node) → Rising ms → (n : Node) → In n ms → node_production ms n.state ≡ n.production
unfolding node_production
production_at [] r n i = absurd (nowhere i)
production_at (m ∷ ms) (rise_cons h r) n i = go (where_in i) (production_at ms r n)
  where
    go : (n ≡ m) ⊎ In n ms → (In n ms → node_production ms n.state ≡ n.production) →
        cond (eqb m.state n.state) m.production (node_production ms n.state) ≡ n.production
    go (inl e) ih =
        rw (eq-eqb m.state n.state (ap (λ (z : Node). z.state) (sym e)))
        (ap (λ (z : Node). z.production) (sym e))
    go (inr j) ih = rw (ne_eqb m.state n.state (λ e. omega (arith, h n j, e))) (ih j)
