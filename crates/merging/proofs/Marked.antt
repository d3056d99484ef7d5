-- Marks of a table's states are marks of its gathered nodes, in either mode.
-- Assumes marks (`Marks`) of a table whose rows climb (`shape` does not refuse).
use mathlib.Core.Path.{◌≡◌, refl, sym, ◌∙◌, ap, subst}
use mathlib.Core.Logic.{inl, inr}
use mathlib.Core.Bool.{Bool, true, false, false≢true}
use mathlib.Core.Option.{Option, none, some}
use mathlib.Core.List.{List, []}
use Prim.Native.Nat.{ℕ}
use Rattle.laws.proofs.Members.{In}
use Rattle.paper.specs.declared.Mode.{Mode}
use Rattle.paper.specs.declared.Mode.TheVariants.{Archive, Intake}
use Rattle.paper.specs.Rows.{Table}
use Rattle.paper.specs.Checks.{shape}
use Rattle.paper.specs.Shrink.{Node, nodes, redirect, lead, lowest, highest_rows, node_production, becomes, gather, gathered}
use Rattle.merging.specs.Marks.{lowest_of, head_of, source_of, compared, Alike, Marks}
use Rattle.merging.proofs.Redirect.{redirect_redirect, same_redirect}
use Rattle.merging.proofs.Ends.{Lowest, lowest as lowest_state, lowest_is, Highest, highest_is}
use Rattle.merging.proofs.ByMarks.{NodeMarks}
use Rattle.merging.proofs.Accepting.{first_node, Last, last_node, no_node, last_of, production_at}
use Rattle.merging.proofs.Gather.{Source, plain, accepting, in_gather, gather_in}
use Rattle.merging.proofs.Gathered.{gather_apart}
use Rattle.merging.proofs.States.{states_ascend, rows_of_state}
use Rattle.merging.proofs.Ruled.{P, R, ss, node_at, nodes_in, in_nodes, nodes_rise, nodes_climb}

module _ (t : Table) (climbs : shape t ≡ false) (mark : ℕ → ℕ) where
  abbrev c : ℕ → ℕ
  c s = head_of mark t s

  -- ---- archive: the accepting states of one production

  module _ (k : Marks Archive t mark) where
    -- they have one mark
    one_mark : (a b q : ℕ) → In a (ss t) → In b (ss t) → P t a ≡ some q → P t b ≡ some q → mark a ≡ mark b
    unfolding compared
    one_mark a b q i j e f = k.two a b i j (record {
      production = e ∙ sym f;
      rows = λ h. absurd (false≢true (ap (compared Archive) (sym e) ∙ h));
    })

    -- and are all of that mark
    one_production : (a b q : ℕ) → In a (ss t) → In b (ss t) → P t a ≡ some q → mark a ≡ mark b → P t b ≡ some q
    one_production a b q i j e f = sym (k.one a b i j f).production ∙ e

    pub lowest_node : (s q : ℕ) → In s (ss t) → P t s ≡ some q → lowest q (nodes t) ≡ c s
    lowest_node s q i e =
        let f = first_node q (nodes t) (nodes_rise t) (node_at t s) (nodes_in t s i) e in
        let (j, is) = in_nodes t f.node f.is_in in
        let px : P t f.node.state ≡ some q = sym (ap (λ (n : Node). n.production) is) ∙ f.production in
        let low : Lowest mark (ss t) (mark s) f.node.state = record {
          is_in = j;
          marked = one_mark f.node.state s q j i px e;
          low = λ y a b. f.low (node_at t y) (nodes_in t y a) (one_production s y q i a e (sym b));
        } in
        sym f.state ∙ sym (lowest_is mark (ss t) (states_ascend t.rows) (mark s) f.node.state low)

    pub highest_node : (s q : ℕ) → In s (ss t) → P t s ≡ some q →
        highest_rows q [] (nodes t) ≡ R t (source_of mark t s)
    highest_node s q i e = go (last_of q 0 [] (nodes t) (nodes_rise t))
      where
        go : Last q 0 [] (nodes t) → highest_rows q [] (nodes t) ≡ R t (source_of mark t s)
        go (no_node a b none_of) = absurd (none_of (node_at t s) (nodes_in t s i) e)
        go (last_node h in_h p a b above) =
            let (j, is) = in_nodes t h in_h in
            let ph : P t h.state ≡ some q = sym (ap (λ (n : Node). n.production) is) ∙ p in
            let high : Highest mark (ss t) (mark s) h.state = record {
              is_in = j;
              marked = one_mark h.state s q j i ph e;
              high = λ y l m. above (node_at t y) (nodes_in t y l) (one_production s y q i l e (sym m));
            } in
            let top = highest_is mark (ss t) (states_ascend t.rows) 0 (mark s) h.state high in
            b ∙ ap (λ (n : Node). n.rows) is ∙ ap (R t) (sym top)

    -- what a state becomes has the state's mark
    pub becomes_mark : (s : ℕ) → In s (ss t) → mark (becomes (nodes t) s) ≡ mark s
    unfolding becomes
    becomes_mark s i = go (P t s) refl
      where
        at : node_production (nodes t) s ≡ P t s
        at = production_at (nodes t) (nodes_rise t) (node_at t s) (nodes_in t s i)

        go : (o : Option ℕ) → P t s ≡ o → mark (becomes (nodes t) s) ≡ mark s
        go none e = ap mark (rw (at ∙ e, becomes))
        go (some q) e =
            let eq : becomes (nodes t) s ≡ lowest q (nodes t) = rw (at ∙ e, becomes) in
            let low = lowest_state mark (ss t) (states_ascend t.rows) s (mark s) i refl in
            ap mark (eq ∙ lowest_node s q i e) ∙ low.marked

  -- rows of a state led by f, after they led into what states become
  pub redirect_becomes : (k : Marks Archive t mark) (f : ℕ → ℕ) → ((a b : ℕ) → mark a ≡ mark b → f a ≡ f b) →
      (s : ℕ) → redirect f (redirect (becomes (nodes t)) (R t s)) ≡ redirect f (R t s)
  redirect_becomes k f by s =
      redirect_redirect f (becomes (nodes t)) (R t s)
      ∙ same_redirect (λ x. f (becomes (nodes t) x)) f (R t s)
      (λ o i. by (becomes (nodes t) o.1) o.1 (becomes_mark k o.1 (rows_of_state t.rows s o i)))

  -- ---- either mode: what a gathered node has of its state

  record Has (mode : Mode) (x : Node) : Type 0 where
    pub is_state : In x.state (ss t)
    pub production : x.production ≡ P t x.state
    pub rows : compared mode (P t x.state) ≡ true → redirect mark x.rows ≡ redirect mark (R t x.state)

  has : (mode : Mode) → Marks mode t mark → (x : Node) → In x (gathered mode (nodes t)) → Has mode x
  unfolding gathered lead compared
  has Intake k x i = let (j, e) = in_nodes t x i in record {
    is_state = j;
    production = ap (λ (n : Node). n.production) e;
    rows = λ _. ap (λ (n : Node). redirect mark n.rows) e;
  }
  has Archive k x i = go (in_gather (nodes t) (nodes t) x i)
    where
      go : Source (nodes t) (nodes t) x → Has Archive x
      go (plain n j e f) =
          let (l, is) = in_nodes t n j in
          let state : x.state ≡ n.state = ap (λ (y : Node). y.state) f in
          let rows : x.rows ≡ redirect (becomes (nodes t)) (R t x.state) =
          ap (λ (y : Node). y.rows) f
          ∙ ap (λ (y : Node). redirect (becomes (nodes t)) y.rows) is
          ∙ ap (λ (y : ℕ). redirect (becomes (nodes t)) (R t y)) (sym state) in
          record {
            is_state = subst (λ (y : ℕ). In y (ss t)) (sym state) l;
            production = ap (λ (y : Node). y.production) f ∙ ap (λ (y : Node). y.production) is ∙ ap (P t) (sym state);
            rows = λ _. ap (redirect mark) rows ∙ redirect_becomes k mark (λ a b z. z) x.state;
          }
      go (accepting n q j e low f) =
          let (l, is) = in_nodes t n j in
          let state : x.state ≡ n.state = ap (λ (y : Node). y.state) f in
          let own : x.production ≡ P t x.state =
          ap (λ (y : Node). y.production) f ∙ sym e ∙ ap (λ (y : Node). y.production) is ∙ ap (P t) (sym state) in
          let accepts : P t x.state ≡ some q = sym own ∙ ap (λ (y : Node). y.production) f in
          record {
            is_state = subst (λ (y : ℕ). In y (ss t)) (sym state) l;
            production = own;
            rows = λ h. absurd (false≢true (ap (compared Archive) (sym accepts) ∙ h));
          }

  -- where rows do not count, a production is one node's
  single : (mode : Mode) (x y : Node) → In x (gathered mode (nodes t)) → In y (gathered mode (nodes t)) →
      compared mode x.production ≡ false → x.production ≡ y.production → x ≡ y
  unfolding gathered compared
  single Intake x y i j h e = absurd (false≢true (sym h))
  single Archive x y i j h e = go x.production refl
    where
      go : (o : Option ℕ) → x.production ≡ o → x ≡ y
      go none f = absurd (false≢true (sym h ∙ ap (compared Archive) f))
      go (some q) f = gather_apart (nodes t) (nodes_climb t climbs) x y q i j f (sym e ∙ f)

  pub node_marks : (mode : Mode) → Marks mode t mark → NodeMarks (gathered mode (nodes t)) mark
  node_marks mode k = record { one = one; two = two }
    where
      G : List Node
      G = gathered mode (nodes t)

      one : (n m : Node) → In n G → In m G → mark n.state ≡ mark m.state →
          (n.production ≡ m.production) × (redirect mark n.rows ≡ redirect mark m.rows)
      one n m i j e = (same, go (compared mode n.production) refl)
        where
          a : Has mode n
          a = has mode k n i

          b : Has mode m
          b = has mode k m j

          alike : Alike mode t mark n.state m.state
          alike = k.one n.state m.state a.is_state b.is_state e

          same : n.production ≡ m.production
          same = a.production ∙ alike.production ∙ sym b.production

          go : (t : Bool) → compared mode n.production ≡ t → redirect mark n.rows ≡ redirect mark m.rows
          go true h =
              let left = ap (compared mode) (sym a.production) ∙ h in
              let right = ap (compared mode) (sym b.production ∙ sym same) ∙ h in
              a.rows left ∙ alike.rows left ∙ sym (b.rows right)
          go false h = ap (λ (x : Node). redirect mark x.rows) (single mode n m i j h same)

      two : (n m : Node) → In n G → In m G → n.production ≡ m.production →
          redirect mark n.rows ≡ redirect mark m.rows → mark n.state ≡ mark m.state
      two n m i j e f =
          let a = has mode k n i in
          let b = has mode k m j in
          let production : P t n.state ≡ P t m.state = sym a.production ∙ e ∙ b.production in
          k.two n.state m.state a.is_state b.is_state (record {
            production = production;
            rows = λ h. sym (a.rows h) ∙ f ∙ b.rows (ap (compared mode) (sym production) ∙ h);
          })

  pub node_state : (mode : Mode) → Marks mode t mark → (x : Node) → In x (gathered mode (nodes t)) → In x.state (ss t)
  node_state mode k x i = (has mode k x i).is_state

  -- the lowest state of a mark is a gathered node's
  pub lowest_stays : (mode : Mode) → Marks mode t mark → (x : Node) → In x (gathered mode (nodes t)) →
      (m : Node) × In m (gathered mode (nodes t)) × (m.state ≡ c x.state)
  unfolding gathered
  lowest_stays mode k x i =
      go mode k (lowest_state mark (ss t) (states_ascend t.rows) s (mark s) (node_state mode k x i) refl)
    where
      s : ℕ
      s = x.state

      go : (mode : Mode) → Marks mode t mark → Lowest mark (ss t) (mark s) (c s) →
          (m : Node) × In m (gathered mode (nodes t)) × (m.state ≡ c s)
      go Intake k l = (node_at t (c s), nodes_in t (c s) l.is_in, refl)
      go Archive k l = far (P t (c s)) refl
        where
          far : (o : Option ℕ) → P t (c s) ≡ o → (m : Node) × In m (gather (nodes t) (nodes t)) × (m.state ≡ c s)
          far none e = gather_in (nodes t) (nodes t) (node_at t (c s)) (nodes_in t (c s) l.is_in) (inl e)
          far (some q) e =
              let low : lowest q (nodes t) ≡ c s =
              lowest_node k (c s) q l.is_in e ∙ ap (lowest_of mark (ss t)) l.marked in
              gather_in (nodes t) (nodes t) (node_at t (c s)) (nodes_in t (c s) l.is_in) (inr (q, e, low))
