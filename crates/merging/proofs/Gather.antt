-- Where the nodes come from that archive's gathering leaves, and which nodes stay. Assumes nothing.
use mathlib.Core.Path.{◌≡◌, refl, sym, ◌∙◌, ap}
use mathlib.Core.Logic.{⊎_elim, ◌⊎◌, inl, inr}
use mathlib.Core.Bool.{Bool, true, false, cond}
use mathlib.Core.Option.{Option, none, some, some-injective}
use mathlib.Core.List.{List, [], ◌∷◌}
use Prim.Native.Nat.{ℕ}
use lib.Dec.{eqb}
use Rattle.laws.proofs.Tests.{Test, same, apart, test, never}
use Rattle.laws.proofs.Members.{In, here, there, nowhere, where_in}
use Rattle.paper.specs.Shrink.{Node, redirect, lead, lowest, highest_rows, becomes, gather}

-- the node that stands for all that accept q
abbrev pub joined : List Node → ℕ → ℕ → Node
joined all s q = record {
  state = s;
  production = some q;
  rows = redirect (becomes all) (highest_rows q [] all);
}

-- what a node of this production puts before the rest
abbrev pub put : List Node → Node → Option ℕ → List Node → List Node
put all n o rest = elim o [
  | none ↦ lead (becomes all) n ∷ rest
  | some q ↦ cond (eqb (lowest q all) n.state) (joined all n.state q ∷ rest) rest
]

-- where a gathered node comes from: a node that does not accept, or the lowest that accepts q
pub data Source (all ns : List Node) (x : Node) : Type 0 where
  plain : (n : Node) → In n ns → n.production ≡ none → x ≡ lead (becomes all) n → Source all ns x
  accepting : (n : Node) (q : ℕ) → In n ns → n.production ≡ some q → lowest q all ≡ n.state →
      x ≡ joined all n.state q → Source all ns x

later : {all ns : List Node} {x : Node} (n : Node) → Source all ns x → Source all (n ∷ ns) x
later n (plain m i e f) = plain m (there i) e f
later n (accepting m q i e l f) = accepting m q (there i) e l f

pub in_gather : (all ns : List Node) (x : Node) → In x (gather all ns) → Source all ns x
unfolding gather
in_gather all [] x i = absurd (nowhere i)
in_gather all (n ∷ ns) x i = go n.production refl i (in_gather all ns x)
  where
    go : (o : Option ℕ) → n.production ≡ o → In x (put all n o (gather all ns)) →
        (In x (gather all ns) → Source all ns x) → Source all (n ∷ ns) x
    go none e j ih = ⊎_elim (λ z. plain n here e z) (λ z. later n (ih z)) (where_in j)
    go (some q) e j ih = far (test (lowest q all) n.state) j
      where
        far : Test (lowest q all) n.state (eqb (lowest q all) n.state) →
            In x (put all n (some q) (gather all ns)) → Source all (n ∷ ns) x
        far (same k t) l = ⊎_elim (λ z. accepting n q here e k z) (λ z. later n (ih z)) (where_in (rw t at l))
        far (apart k t) l = later n (ih (rw t at l))

-- the state and production of a gathered node are its source's
pub source_of : {all ns : List Node} {x : Node} → Source all ns x →
    (n : Node) × In n ns × (x.state ≡ n.state) × (x.production ≡ n.production)
unfolding lead
source_of (plain n i e f) = (n, i, ap (λ (y : Node). y.state) f, ap (λ (y : Node). y.production) f)
source_of (accepting n q i e l f) =
    (n, i, ap (λ (y : Node). y.state) f, ap (λ (y : Node). y.production) f ∙ sym e)

-- which nodes stay
abbrev pub Stays : List Node → Node → Type 0
Stays all n = (n.production ≡ none) ⊎ ((q : ℕ) × (n.production ≡ some q) × (lowest q all ≡ n.state))

abbrev Stood : List Node → Node → Type 0
Stood ms n = (x : Node) × In x ms × (x.state ≡ n.state)

pub gather_in : (all ns : List Node) (n : Node) → In n ns → Stays all n → Stood (gather all ns) n
unfolding gather lead
gather_in all [] n i k = absurd (nowhere i)
gather_in all (m ∷ ns) n i k = go m.production refl (where_in i) (λ j. gather_in all ns n j k)
  where
    late : (o : Option ℕ) → Stood (gather all ns) n → Stood (put all m o (gather all ns)) n
    late none s = (s.0, there s.1, s.2)
    late (some q) s = far (eqb (lowest q all) m.state)
      where
        far : (b : Bool) → Stood (cond b (joined all m.state q ∷ gather all ns) (gather all ns)) n
        far true = (s.0, there s.1, s.2)
        far false = s

    now : (o : Option ℕ) → m.production ≡ o → n ≡ m → Stood (put all m o (gather all ns)) n
    now none e z = (lead (becomes all) m, here, ap (λ (y : Node). y.state) (sym z))
    now (some q) e z = far (test (lowest q all) m.state)
      where
        own : n.production ≡ some q
        own = ap (λ (v : Node). v.production) z ∙ e

        stays : lowest q all ≡ m.state
        stays = ⊎_elim
            (λ w. absurd (never (sym w ∙ own)))
            (λ w. let p : w.0 ≡ q = some-injective w.0 q (sym w.1 ∙ own) in
            ap (λ (v : ℕ). lowest v all) (sym p) ∙ w.2 ∙ ap (λ (v : Node). v.state) z)
            k

        far : Test (lowest q all) m.state (eqb (lowest q all) m.state) →
            Stood (put all m (some q) (gather all ns)) n
        far (same w t) = rw t (joined all m.state q, here, ap (λ (v : Node). v.state) (sym z))
        far (apart w t) = absurd (w stays)

    go : (o : Option ℕ) → m.production ≡ o → (n ≡ m) ⊎ In n ns → (In n ns → Stood (gather all ns) n) →
        Stood (put all m o (gather all ns)) n
    go o e (inl z) ih = now o e z
    go o e (inr z) ih = late o (ih z)
