-- Archive's gathering keeps nodes rising, closed and with a falling rank, and leaves one accepting node for each
-- production. Assumes that the nodes climb: states rise, rows lead to higher states of the list.
use mathlib.Core.Path.{◌≡◌, refl, sym, ◌∙◌, ap, subst}
use mathlib.Core.Logic.{⊎_elim, inl, inr}
use mathlib.Core.Bool.{Bool, true, false, cond}
use mathlib.Core.Option.{Option, none, some, some-injective}
use mathlib.Core.List.{List, [], ◌∷◌}
use Prim.Native.Nat.{ℕ, suc, ◌-◌, ◌≤◌, ◌<◌, max}
use native.Mathlib.Omega.{arith}
use lib.ListN.{length}
use lib.Dec.{eqb}
use Rattle.laws.proofs.Tests.{never}
use Rattle.laws.proofs.Members.{In, nowhere, where_in}
use Rattle.paper.specs.declared.Mode.{Mode}
use Rattle.paper.specs.declared.Mode.TheVariants.{Archive, Intake}
use Rattle.paper.specs.Shrink.{Node, redirect, lead, lowest, highest_rows, node_production, becomes, gather, gathered}
use Rattle.merging.specs.Classes.{Rising, rise_nil, rise_cons, Climbing, Grounded}
use Rattle.merging.proofs.Redirect.{redirect_in}
use Rattle.merging.proofs.Merging.{one_state}
use Rattle.merging.proofs.Accepting.{first_node, top_of, Last, last_node, no_node, last_of, production_at}
use Rattle.merging.proofs.Gather.{joined, put, Source, plain, accepting, in_gather, source_of, gather_in}

gather_rises : (all ns : List Node) → Rising ns → Rising (gather all ns)
unfolding gather lead
gather_rises all [] r = rise_nil
gather_rises all (m ∷ ns) (rise_cons h r) = go m.production (gather_rises all ns r)
  where
    first : (x : Node) → In x (gather all ns) → m.state < x.state
    first x i = let (n, j, e, _) = source_of (in_gather all ns x i) in omega (arith, h n j, e)

    go : (o : Option ℕ) → Rising (gather all ns) → Rising (put all m o (gather all ns))
    go none ih = rise_cons first ih
    go (some q) ih = far (eqb (lowest q all) m.state)
      where
        far : (b : Bool) → Rising (cond b (joined all m.state q ∷ gather all ns) (gather all ns))
        far true = rise_cons first ih
        far false = ih

gather_le : (all ns : List Node) → length (gather all ns) ≤ length ns
unfolding gather
gather_le all [] = omega arith
gather_le all (m ∷ ns) = go m.production (gather_le all ns)
  where
    go : (o : Option ℕ) → length (gather all ns) ≤ length ns → length (put all m o (gather all ns)) ≤ suc (length ns)
    go none ih = omega arith
    go (some q) ih = far (eqb (lowest q all) m.state)
      where
        far : (b : Bool) → length (cond b (joined all m.state q ∷ gather all ns) (gather all ns)) ≤ suc (length ns)
        far true = omega arith
        far false = omega arith

-- a number above all states
unfoldable pub ceiling : List Node → ℕ
ceiling [] = 0
ceiling (n ∷ ns) = max (suc n.state) (ceiling ns)

under_ceiling : (ns : List Node) (n : Node) → In n ns → n.state < ceiling ns
unfolding ceiling
under_ceiling [] n i = absurd (nowhere i)
under_ceiling (x ∷ ns) n i = ⊎_elim
    (λ e. omega (arith, ap (λ (z : Node). z.state) e))
    (λ j. omega (arith, under_ceiling ns n j))
    (where_in i)

module _ (ns : List Node) (k : Climbing ns) where
  -- the highest state of a state's class
  top : Option ℕ → ℕ → ℕ
  top none s = s
  top (some q) s = top_of q 0 ns

  abbrev height : ℕ → ℕ
  height s = top (node_production ns s) s

  pub gather_rank : ℕ → ℕ
  gather_rank s = ceiling ns - top (node_production ns s) s

  top_bounds : (m : Node) → In m ns → (q : ℕ) → m.production ≡ some q → Last q 0 [] ns →
      (m.state ≤ top_of q 0 ns) × (top_of q 0 ns < ceiling ns)
  top_bounds m i q e (last_node h j p a b c) = (omega (arith, a, c m i e), omega (arith, a, under_ceiling ns h j))
  top_bounds m i q e (no_node a b c) = absurd (c m i e)

  -- what a state becomes: a node of the gathered, whose class reaches as high as the state
  abbrev Above : ℕ → ℕ → Type 0
  Above s g = (s ≤ height g) × (height g < ceiling ns) × ((x : Node) × In x (gather ns ns) × (x.state ≡ g))

  pub becomes_plain : (m : Node) → In m ns → m.production ≡ none → becomes ns m.state ≡ m.state
  unfolding becomes
  becomes_plain m i e = rw (production_at ns k.rises m i ∙ e, becomes)

  pub becomes_accepting : (m : Node) (q : ℕ) → In m ns → m.production ≡ some q → becomes ns m.state ≡ lowest q ns
  unfolding becomes
  becomes_accepting m q i e = rw (production_at ns k.rises m i ∙ e, becomes)

  above : (m : Node) → In m ns → Above m.state (becomes ns m.state)
  unfolding top
  above m i = go m.production refl
    where
      go : (o : Option ℕ) → m.production ≡ o → Above m.state (becomes ns m.state)
      go none e =
          let high : height m.state ≡ m.state = rw (production_at ns k.rises m i ∙ e) in
          let stood = gather_in ns ns m i (inl e) in
          subst (Above m.state) (sym (becomes_plain m i e))
          (omega (arith, high), omega (arith, high, under_ceiling ns m i), stood)
      go (some q) e =
          let f = first_node q ns k.rises m i e in
          let found : node_production ns (lowest q ns) ≡ some q =
          ap (node_production ns) (sym f.state)
          ∙ production_at ns k.rises f.node f.is_in
          ∙ f.production in
          let high : height (lowest q ns) ≡ top_of q 0 ns = rw found in
          let (x, a, b) = gather_in ns ns f.node f.is_in (inr (q, f.production, sym f.state)) in
          let t = top_bounds m i q e (last_of q 0 [] ns k.rises) in
          subst (Above m.state) (sym (becomes_accepting m q i e))
          (omega (arith, high, t.0), omega (arith, high, t.1), (x, a, b ∙ f.state))

  -- the node that a node becomes
  pub record Became (m x : Node) : Type 0 where
    pub is_in : In x (gather ns ns)
    pub state : x.state ≡ becomes ns m.state
    pub production : x.production ≡ m.production
    pub rows : m.production ≡ none → x.rows ≡ redirect (becomes ns) m.rows

  pub became : (m : Node) → In m ns → (x : Node) × Became m x
  unfolding lead
  became m i = let (_, _, (x, j, e)) = above m i in (x, go x j e m.production refl (in_gather ns ns x j))
    where
      go : (x : Node) → In x (gather ns ns) → x.state ≡ becomes ns m.state →
          (o : Option ℕ) → m.production ≡ o → Source ns ns x → Became m x
      go x j e none f (plain n l g h) =
          let state : n.state ≡ m.state = ap (λ (y : Node). y.state) (sym h) ∙ e ∙ becomes_plain m i f in
          let same : n ≡ m = one_state ns k.rises n m l i state in
          record {
            is_in = j;
            state = e;
            production = ap (λ (y : Node). y.production) h ∙ g ∙ sym f;
            rows = λ _. ap (λ (y : Node). y.rows) h ∙ ap (λ (y : Node). redirect (becomes ns) y.rows) same;
          }
      go x j e none f (accepting n q l g a h) =
          let state : n.state ≡ m.state = ap (λ (y : Node). y.state) (sym h) ∙ e ∙ becomes_plain m i f in
          let same : n ≡ m = one_state ns k.rises n m l i state in
          absurd (never (sym f ∙ ap (λ (y : Node). y.production) (sym same) ∙ g))
      go x j e (some q) f s =
          let (n, l, a, b) = source_of s in
          let w = first_node q ns k.rises m i f in
          let state : n.state ≡ w.node.state = sym a ∙ e ∙ becomes_accepting m q i f ∙ sym w.state in
          let same : n ≡ w.node = one_state ns k.rises n w.node l w.is_in state in
          record {
            is_in = j;
            state = e;
            production = b ∙ ap (λ (y : Node). y.production) same ∙ w.production ∙ sym f;
            rows = λ z. absurd (never (sym z ∙ f));
          }

  -- where a gathered row leads: to what a state becomes that is higher than the row's class
  abbrev Leads : Node → ℕ × ℕ → Type 0
  Leads x o = (m : Node) × In m ns × (o.1 ≡ becomes ns m.state) × (height x.state < m.state)

  leads : (x : Node) → In x (gather ns ns) → (o : ℕ × ℕ) → In o x.rows → Leads x o
  unfolding top lead
  leads x i o j = go (in_gather ns ns x i)
    where
      found : (n : Node) → In n ns → x.state ≡ n.state → node_production ns x.state ≡ n.production
      found n i e = ap (node_production ns) e ∙ production_at ns k.rises n i

      go : Source ns ns x → Leads x o
      go (plain n in_n e f) =
          let own : In o (redirect (becomes ns) n.rows) = subst (λ (z : Node). In o z.rows) f j in
          let (p, l, _, to) = redirect_in (becomes ns) n.rows o own in
          let (m, in_m, em) = k.closed n in_n p l in
          let state : x.state ≡ n.state = ap (λ (z : Node). z.state) f in
          let high : height x.state ≡ x.state = rw (found n in_n state ∙ e) in
          (m, in_m, to ∙ ap (becomes ns) (sym em), omega (arith, high, k.climbs n in_n p l, em, state))
      go (accepting n q in_n e low f) = far (last_of q 0 [] ns k.rises)
        where
          state : x.state ≡ n.state
          state = ap (λ (z : Node). z.state) f

          high : height x.state ≡ top_of q 0 ns
          high = rw (found n in_n state ∙ e)

          own : In o (redirect (becomes ns) (highest_rows q [] ns))
          own = subst (λ (z : Node). In o z.rows) f j

          far : Last q 0 [] ns → Leads x o
          far (no_node a b c) = absurd (c n in_n e)
          far (last_node h in_h p a b c) =
              let rows = subst (λ (z : List (ℕ × ℕ)). In o (redirect (becomes ns) z)) b own in
              let (r, l, _, to) = redirect_in (becomes ns) h.rows o rows in
              let (m, in_m, em) = k.closed h in_h r l in
              (m, in_m, to ∙ ap (becomes ns) (sym em), omega (arith, high, k.climbs h in_h r l, em, a))

  gather_falls : (x : Node) → In x (gather ns ns) → (o : ℕ × ℕ) → In o x.rows →
      gather_rank o.1 < gather_rank x.state
  unfolding gather_rank
  gather_falls x i o j =
      let (m, in_m, e, l) = leads x i o j in
      let (h₁, h₂, _) = above m in_m in
      subst (λ (z : ℕ). ceiling ns - height z < ceiling ns - height x.state) (sym e) (omega (arith, l, h₁, h₂))

  gather_closed : (x : Node) → In x (gather ns ns) → (o : ℕ × ℕ) → In o x.rows →
      (y : Node) × In y (gather ns ns) × (y.state ≡ o.1)
  gather_closed x i o j =
      let (m, in_m, e, l) = leads x i o j in
      let (_, _, (y, in_y, ey)) = above m in_m in
      (y, in_y, ey ∙ sym e)

  pub gather_grounded : Grounded (gather ns ns) gather_rank
  gather_grounded = record {
    rises = gather_rises ns ns k.rises;
    falls = gather_falls;
    closed = gather_closed;
  }

  -- no two accepting nodes have one production afterwards
  pub gather_apart : (x y : Node) (q : ℕ) → In x (gather ns ns) → In y (gather ns ns) →
      x.production ≡ some q → y.production ≡ some q → x ≡ y
  unfolding lead
  gather_apart x y q i j e f = one_state (gather ns ns) (gather_rises ns ns k.rises) x y i j
      (at x e (in_gather ns ns x i) ∙ sym (at y f (in_gather ns ns y j)))
    where
      at : (z : Node) → z.production ≡ some q → Source ns ns z → z.state ≡ lowest q ns
      at z e (plain n i p r) = absurd (never (sym p ∙ sym (ap (λ (w : Node). w.production) r) ∙ e))
      at z e (accepting n p i h l r) =
          let same : p ≡ q = some-injective p q (sym (ap (λ (w : Node). w.production) r) ∙ e) in
          ap (λ (w : Node). w.state) r ∙ sym l ∙ ap (λ (w : ℕ). lowest w ns) same

-- ---- either mode

module _ (ns : List Node) (k : Climbing ns) where
  pub mode_rank : Mode → ℕ → ℕ
  mode_rank Archive s = gather_rank ns k s
  mode_rank Intake s = ceiling ns - s

  pub gathered_grounded : (mode : Mode) → Grounded (gathered mode ns) (mode_rank mode)
  unfolding gathered mode_rank
  gathered_grounded Archive = gather_grounded ns k
  gathered_grounded Intake = record {
    rises = k.rises;
    falls = λ n i o j. omega (arith, k.climbs n i o j, under_ceiling ns n i);
    closed = k.closed;
  }

  pub gathered_le : (mode : Mode) → length (gathered mode ns) ≤ length ns
  unfolding gathered
  gathered_le Archive = gather_le ns ns
  gathered_le Intake = omega arith
