-- What the checks of a ruled table say of its nodes. Assumes of the table the checks that each law names.
use mathlib.Core.Path.{◌≡◌, refl, sym, ◌∙◌, ap, subst}
use mathlib.Core.Logic.{⊎_elim, ◌⊎◌, inl, inr}
use mathlib.Core.Bool.{Bool, true, false, cond, not, ◌&&◌}
use mathlib.Core.Option.{Option}
use mathlib.Core.List.{List, [], ◌∷◌, map}
use Prim.Native.Nat.{ℕ, ◌<◌}
use native.Mathlib.Omega.{arith}
use lib.Dec.{eqb, leb}
use borrow.Author.Tests.{eq-eqb, eqb-true, leb-false, not-false}
use Rattle.laws.proofs.Tests.{Test, same, apart, test}
use Rattle.laws.proofs.Every.{any_in, any_some}
use Rattle.laws.proofs.Members.{In, here, there, nowhere, where_in, in_map, map_in}
use Rattle.laws.proofs.Productions.{same_production_eq}
use Rattle.paper.specs.Rows.{Row, Table, states}
use Rattle.paper.specs.Checks.{shape, loose, split, same_production, any}
use Rattle.paper.specs.Shrink.{Node, production_of, rows_of, nodes}
use Rattle.merging.specs.Numbers.{Ascending, asc_cons}
use Rattle.merging.specs.Classes.{Rising, rise_nil, rise_cons, Climbing}
use Rattle.merging.proofs.States.{states_ascend, zero_state, to_state, rows_of_in, rows_of_state}

-- ---- nodes

-- in short: a state's production, its rows, and the states
abbrev pub P : Table → ℕ → Option ℕ
P t s = production_of t.prod0 t.rows s

abbrev pub R : Table → ℕ → List (ℕ × ℕ)
R t s = rows_of t.rows s

abbrev pub ss : Table → List ℕ
ss t = states t.rows

abbrev pub node_at : Table → ℕ → Node
node_at t s = record { state = s; production = P t s; rows = R t s }

pub nodes_in : (t : Table) (s : ℕ) → In s (states t.rows) → In (node_at t s) (nodes t)
unfolding nodes
nodes_in t s i = in_map (node_at t) (states t.rows) s i

pub in_nodes : (t : Table) (n : Node) → In n (nodes t) → In n.state (states t.rows) × (n ≡ node_at t n.state)
unfolding nodes
in_nodes t n i =
    let (s, j, e) = map_in (node_at t) (states t.rows) n i in
    let z : s ≡ n.state = ap (λ (x : Node). x.state) (sym e) in
    (subst (λ (x : ℕ). In x (states t.rows)) z j, e ∙ ap (node_at t) z)

map_rises : (t : Table) (ss : List ℕ) → Ascending ss → Rising (map (node_at t) ss)
map_rises t [] a = rise_nil
map_rises t (s ∷ ss) (asc_cons h a) = rise_cons
    (λ m i. let (x, j, e) = map_in (node_at t) ss m i in subst (λ (z : Node). s < z.state) (sym e) (h x j))
    (map_rises t ss a)

pub nodes_rise : (t : Table) → Rising (nodes t)
unfolding nodes
nodes_rise t = map_rises t (states t.rows) (states_ascend t.rows)

-- ---- checks

pub rows_climb : (t : Table) → shape t ≡ false → (r : Row) → In r t.rows → r.from < r.to
unfolding shape
rows_climb t h r i = leb-false r.to r.from (any_in (λ (x : Row). leb x.to x.from) t.rows h r i)

pub nodes_climb : (t : Table) → shape t ≡ false → Climbing (nodes t)
nodes_climb t h = record {
  rises = nodes_rise t;
  climbs = λ n i o j.
      let (r, k, a, b) = row n i o j in
      omega (arith, rows_climb t h r k, a, ap (λ (q : ℕ × ℕ). q.1) b);
  closed = λ n i o j.
      let own = subst (λ (x : Node). In o x.rows) (in_nodes t n i).1 j in
      (node_at t o.1, nodes_in t o.1 (rows_of_state t.rows n.state o own), refl);
}
  where
    row : (n : Node) → In n (nodes t) → (o : ℕ × ℕ) → In o n.rows →
        (r : Row) × In r t.rows × (r.from ≡ n.state) × (o ≡ (r.terminal, r.to))
    row n i o j = rows_of_in t.rows n.state o (subst (λ (x : Node). In o x.rows) (in_nodes t n i).1 j)

-- a state's production is prod0, or that of a row into it
pub production_cases : (p : Option ℕ) (rs : List Row) (s : ℕ) →
    ((production_of p rs s ≡ p) × ((r : Row) → In r rs → r.to ≡ s → ⊥))
    ⊎ ((r : Row) × In r rs × (r.to ≡ s) × (production_of p rs s ≡ r.production))
unfolding production_of
production_cases p [] s = inl (refl, λ r i e. nowhere i)
production_cases p (r ∷ rs) s = go (test r.to s) (production_cases p rs s)
  where
    At : List Row → Option ℕ → Type 0
    At xs o = ((o ≡ p) × ((x : Row) → In x xs → x.to ≡ s → ⊥))
        ⊎ ((x : Row) × In x xs × (x.to ≡ s) × (o ≡ x.production))

    go : Test r.to s (eqb r.to s) → At rs (production_of p rs s) →
        At (r ∷ rs) (cond (eqb r.to s) r.production (production_of p rs s))
    go (same h e) k = inr (r, here, h, rw e)
    go (apart h e) (inl k) = inl (
      rw e k.0,
      λ x i f.
          ⊎_elim (λ z. h (ap (λ (y : Row). y.to) (sym z) ∙ f)) (λ z. k.1 x z f) (where_in i),
    )
    go (apart h e) (inr k) = inr (k.0, there k.1, k.2, rw e k.3)

pub zero_production : (t : Table) → shape t ≡ false → production_of t.prod0 t.rows 0 ≡ t.prod0
zero_production t h = ⊎_elim
    (λ k. k.0)
    (λ k. let (r, i, e, _) = k in absurd (omega (arith, rows_climb t h r i, e)))
    (production_cases t.prod0 t.rows 0)

-- all rows into one state carry one production, the state's
pub row_production : (t : Table) → split t ≡ false → (r : Row) → In r t.rows →
    production_of t.prod0 t.rows r.to ≡ r.production
unfolding split
row_production t h r i = ⊎_elim
    (λ k. absurd (k.1 r i refl))
    (λ k. let (x, j, e, f) = k in f ∙ same_production_eq x.production r.production (agree x j e))
    (production_cases t.prod0 t.rows r.to)
  where
    differ : Row → Row → Bool
    differ r x = eqb x.to r.to && not (same_production x.production r.production)

    agree : (x : Row) → In x t.rows → x.to ≡ r.to → same_production x.production r.production ≡ true
    agree x j e =
        let none_of = any_in (λ (y : Row). any (differ y) t.rows) t.rows h r i in
        let is : differ r x ≡ false = any_in (differ r) t.rows none_of x j in
        let left : eqb x.to r.to ≡ true = eq-eqb x.to r.to e in
        let right : not (same_production x.production r.production) ≡ false = rw left at is in
        not-false (same_production x.production r.production) right

-- a row leaves a state
pub from_state : (t : Table) → loose t ≡ false → (r : Row) → In r t.rows → In r.from (states t.rows)
unfolding loose
from_state t h r i = go (test r.from 0)
  where
    into : Row → Row → Bool
    into r x = eqb x.to r.from

    go : Test r.from 0 (eqb r.from 0) → In r.from (states t.rows)
    go (same e _) = subst (λ (z : ℕ). In z (states t.rows)) (sym e) (zero_state t.rows)
    go (apart e f) =
        let is : not (eqb r.from 0) && not (any (into r) t.rows) ≡ false =
        any_in (λ (y : Row). not (eqb y.from 0) && not (any (into y) t.rows)) t.rows h r i in
        let some_row : any (into r) t.rows ≡ true = not-false (any (into r) t.rows) (rw f at is) in
        let (x, j, g) = any_some (into r) t.rows some_row in
        subst (λ (z : ℕ). In z (states t.rows)) (eqb-true x.to r.from g) (to_state t.rows x j)
