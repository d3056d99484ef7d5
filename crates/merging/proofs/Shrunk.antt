-- Shrinking gives the table of the marks, in either mode.
-- Assumes marks (`Marks`) of a table whose rows climb (`shape` does not refuse).
use mathlib.Core.Path.{◌≡◌, refl, sym, ◌∙◌, ap, ap₂, subst}
use mathlib.Core.Bool.{Bool, true, false, cond}
use mathlib.Core.Option.{Option, none, some}
use mathlib.Core.List.{List, [], ◌∷◌, ◌++◌, map}
use Prim.Native.Nat.{ℕ, suc, ◌<◌}
use native.Mathlib.Omega.{arith}
use lib.ListN.{length, length-map}
use lib.Dec.{eqb, ltb}
use Rattle.laws.proofs.Tests.{Test, same, apart, test}
use Rattle.laws.proofs.Members.{In, here, there, in_map, map_in}
use Rattle.paper.specs.declared.Mode.{Mode}
use Rattle.paper.specs.declared.Mode.TheVariants.{Archive, Intake}
use Rattle.paper.specs.Rows.{Row, Table}
use Rattle.paper.specs.Checks.{shape}
use Rattle.paper.specs.Shrink.{Node, nodes, redirect, lead, lowest, highest_rows, node_production, becomes, gather, gathered, merge_all, place, node_rows, shrunk}
use Rattle.merging.specs.Numbers.{Ascending, asc_cons}
use Rattle.merging.specs.Classes.{Rising, rise_nil, rise_cons, quotient}
use Rattle.merging.specs.Marks.{lowest_of, head_of, source_of, heads, heads_of, place_among, place_of}
use Rattle.merging.specs.Marks.{marked_row, marked_rows, marked, compared, Marks}
use Rattle.merging.proofs.Redirect.{redirect_over}
use Rattle.merging.proofs.ByMarks.{by_marks_among}
use Rattle.merging.proofs.Ends.{Lowest, lowest as lowest_state, Highest, highest, heads_in, heads_ascend}
use Rattle.merging.proofs.Accepting.{production_at}
use Rattle.merging.proofs.Gather.{put}
use Rattle.merging.proofs.Gathered.{mode_rank, gathered_grounded, gathered_le}
use Rattle.merging.proofs.Places.{place_zero}
use Rattle.merging.proofs.States.{states_ascend, zero_state, rows_of_state}
use Rattle.merging.proofs.Ruled.{P, R, ss, node_at, nodes_climb}
use Rattle.merging.proofs.Marked.{lowest_node, highest_node, redirect_becomes}
use Rattle.merging.proofs.Marked.{node_marks, node_state, lowest_stays}

module _ (mode : Mode) (t : Table) (climbs : shape t ≡ false) (mark : ℕ → ℕ) (k : Marks mode t mark) where
  abbrev c : ℕ → ℕ
  c s = head_of mark t s

  abbrev h : ℕ → ℕ
  h s = source_of mark t s

  abbrev hs : List ℕ
  hs = heads_of mark t

  -- ---- what marks say of the lowest and the highest state

  pub head_lowest : (s : ℕ) → In s (ss t) → Lowest mark (ss t) (mark s) (c s)
  head_lowest s i = lowest_state mark (ss t) (states_ascend t.rows) s (mark s) i refl

  pub source_highest : (s : ℕ) → In s (ss t) → Highest mark (ss t) (mark s) (h s)
  source_highest s i = highest mark (ss t) (states_ascend t.rows) 0 s (mark s) i refl

  pub head_is_head : (s : ℕ) → In s (ss t) → In (c s) hs
  head_is_head s i =
      let l = head_lowest s i in
      heads_in mark (ss t) (ss t) (c s) l.is_in (ap (lowest_of mark (ss t)) l.marked)

  -- state 0 is a head
  zero_own : c 0 ≡ 0
  zero_own = let l = head_lowest 0 (zero_state t.rows) in omega (arith, l.low 0 (zero_state t.rows) refl)

  pub zero_head : In 0 hs
  zero_head = heads_in mark (ss t) (ss t) 0 (zero_state t.rows) zero_own

  -- and keeps its number
  pub zero_place : place_of mark t 0 ≡ 0
  zero_place = ap (place_among hs) zero_own ∙ place_zero hs

  pub head_production : (s : ℕ) → In s (ss t) → P t (c s) ≡ P t s
  head_production s i = (k.one (c s) s (head_lowest s i).is_in i (head_lowest s i).marked).production

  -- rows that count are by classes those of the highest state of the mark
  pub source_rows : (s : ℕ) → In s (ss t) → compared mode (P t s) ≡ true → redirect c (R t s) ≡ redirect c (R t (h s))
  source_rows s i e =
      let alike = k.one s (h s) i (source_highest s i).is_in (sym (source_highest s i).marked) in
      redirect_over mark c (R t s) (R t (h s)) (λ o p _ _ z. ap (lowest_of mark (ss t)) z) (alike.rows e)

  -- the node of a head
  unfoldable pub head_node : ℕ → Node
  head_node s = record { state = s; production = P t s; rows = redirect c (R t (h s)) }

  -- ---- the nodes that merging leaves are those of the heads

  from_nodes : (xs : List ℕ) → ((s : ℕ) → In s xs → In s (ss t)) → ((s : ℕ) → In s xs → compared mode (P t s) ≡ true) →
      quotient c (map (node_at t) xs) ≡ map head_node (heads mark (ss t) xs)
  unfolding quotient heads lead head_node
  from_nodes [] sub all = refl
  from_nodes (s ∷ xs) sub all =
      go (eqb (c s) s) (from_nodes xs (λ x i. sub x (there i)) (λ x i. all x (there i)))
    where
      rows : redirect c (R t s) ≡ redirect c (R t (h s))
      rows = source_rows s (sub s here) (all s here)

      go : (b : Bool) → quotient c (map (node_at t) xs) ≡ map head_node (heads mark (ss t) xs) →
          cond b (lead c (node_at t s) ∷ quotient c (map (node_at t) xs)) (quotient c (map (node_at t) xs))
          ≡ map head_node (cond b (s ∷ heads mark (ss t) xs) (heads mark (ss t) xs))
      go true ih = λ i. record { state = s; production = P t s; rows = rows i } ∷ ih i
      go false ih = ih

  module _ (is : mode ≡ Archive) where
    k' : Marks Archive t mark
    k' = subst (λ (m : Mode). Marks m t mark) is k

    from_gather : (xs : List ℕ) → ((s : ℕ) → In s xs → In s (ss t)) →
        quotient c (gather (nodes t) (map (node_at t) xs)) ≡ map head_node (heads mark (ss t) xs)
    unfolding quotient heads gather lead head_node compared
    from_gather [] sub = refl
    from_gather (s ∷ xs) sub = go (P t s) refl (from_gather xs (λ x i. sub x (there i)))
      where
        rest : List Node
        rest = gather (nodes t) (map (node_at t) xs)

        by : (a b : ℕ) → mark a ≡ mark b → c a ≡ c b
        by a b e = ap (lowest_of mark (ss t)) e

        go : (o : Option ℕ) → P t s ≡ o → quotient c rest ≡ map head_node (heads mark (ss t) xs) →
            quotient c (put (nodes t) (node_at t s) o rest)
            ≡ map head_node (cond (eqb (c s) s) (s ∷ heads mark (ss t) xs) (heads mark (ss t) xs))
        go none e ih = far (eqb (c s) s)
          where
            counts : compared mode (P t s) ≡ true
            counts = rw (is, e)

            rows : redirect c (redirect (becomes (nodes t)) (R t s)) ≡ redirect c (R t (h s))
            rows = redirect_becomes t climbs mark k' c by s ∙ source_rows s (sub s here) counts

            far : (b : Bool) →
                cond b (lead c (lead (becomes (nodes t)) (node_at t s)) ∷ quotient c rest) (quotient c rest)
                ≡ map head_node (cond b (s ∷ heads mark (ss t) xs) (heads mark (ss t) xs))
            far true = λ i. record { state = s; production = P t s; rows = rows i } ∷ ih i
            far false = ih
        go (some q) e ih = far (test (c s) s)
          where
            own : some q ≡ P t s
            own = sym e

            low_q : lowest q (nodes t) ≡ c s
            low_q = lowest_node t climbs mark k' s q (sub s here) e

            rows : redirect c (redirect (becomes (nodes t)) (highest_rows q [] (nodes t))) ≡ redirect c (R t (h s))
            rows = ap (λ (r : List (ℕ × ℕ)). redirect c (redirect (becomes (nodes t)) r))
                (highest_node t climbs mark k' s q (sub s here) e)
                ∙ redirect_becomes t climbs mark k' c by (h s)

            far : Test (c s) s (eqb (c s) s) → quotient c (put (nodes t) (node_at t s) (some q) rest)
                ≡ map head_node (cond (eqb (c s) s) (s ∷ heads mark (ss t) xs) (heads mark (ss t) xs))
            far (same f g) = rw (low_q, g, g) (λ i. record { state = s; production = own i; rows = rows i } ∷ ih i)
            far (apart f g) = rw (low_q, g) ih

  heads_nodes : quotient c (gathered mode (nodes t)) ≡ map head_node hs
  unfolding gathered nodes compared
  heads_nodes = go mode refl
    where
      go : (m : Mode) → mode ≡ m → quotient c (gathered m (nodes t)) ≡ map head_node hs
      go Archive e = from_gather e (ss t) (λ s i. i)
      go Intake e = from_nodes (ss t) (λ s i. i) (λ s i. rw e)

  pub merged_nodes : merge_all (length (nodes t)) (gathered mode (nodes t)) ≡ map head_node hs
  merged_nodes =
      let up = nodes_climb t climbs in
      by_marks_among (gathered mode (nodes t)) (mode_rank (nodes t) up mode) (gathered_grounded (nodes t) up mode) mark
      (node_marks t climbs mark mode k) (ss t) (states_ascend t.rows) (node_state t climbs mark mode k)
      (lowest_stays t climbs mark mode k) (length (nodes t)) (gathered_le (nodes t) up mode)
      ∙ heads_nodes

  -- ---- their rows

  place_heads : (xs : List ℕ) (s : ℕ) → place (map head_node xs) s ≡ place_among xs s
  unfolding place place_among head_node
  place_heads [] s = refl
  place_heads (x ∷ xs) s = λ i. cond (ltb x s) (suc (place_heads xs s i)) (place_heads xs s i)

  heads_rise : (xs : List ℕ) → Ascending xs → Rising (map head_node xs)
  unfolding head_node
  heads_rise [] a = rise_nil
  heads_rise (x ∷ xs) (asc_cons l a) = rise_cons
      (λ m i. let (y, j, e) = map_in head_node xs m i in subst (λ (z : Node). x < z.state) (sym e) (l y j))
      (heads_rise xs a)

  pub heads_ascending : Ascending hs
  heads_ascending = heads_ascend mark (ss t) (ss t) (states_ascend t.rows)

  production_heads : (s : ℕ) → In s (ss t) → node_production (map head_node hs) (c s) ≡ P t s
  unfolding head_node
  production_heads s i =
      production_at (map head_node hs) (heads_rise hs heads_ascending) (head_node (c s))
      (in_map head_node hs (c s) (head_is_head s i))
      ∙ head_production s i

  abbrev node_row : ℕ → ℕ × ℕ → Row
  node_row s r = record {
    from = place (map head_node hs) s;
    terminal = r.0;
    to = place (map head_node hs) r.1;
    production = node_production (map head_node hs) r.1;
  }

  state_rows : (s : ℕ) (os : List (ℕ × ℕ)) → ((o : ℕ × ℕ) → In o os → In o.1 (ss t)) →
      map (node_row s) (redirect c os) ≡ map (marked_row mark t hs s) os
  unfolding redirect marked_row
  state_rows s [] sub = refl
  state_rows s (o ∷ os) sub = λ i. record {
    from = place_heads hs s i;
    terminal = o.0;
    to = place_heads hs (c o.1) i;
    production = production_heads o.1 (sub o here) i;
  } ∷ state_rows s os (λ p j. sub p (there j)) i

  heads_rows : (xs : List ℕ) → node_rows (map head_node hs) (map head_node xs) ≡ marked_rows mark t hs xs
  unfolding node_rows marked_rows head_node
  heads_rows [] = refl
  heads_rows (x ∷ xs) = ap₂ (λ (a b : List Row). a ++ b)
      (state_rows x (R t (h x)) (λ o i. rows_of_state t.rows (h x) o i))
      (heads_rows xs)

  -- The shrunk table has one state for each mark, and the rows of the highest state of each.
  pub shrunk_by_marks : shrunk mode t ≡ marked mark t
  unfolding shrunk marked
  shrunk_by_marks =
      ap (λ (ms : List Node). record {
        table = record { prod0 = t.prod0; k = t.k; rows = node_rows ms ms };
        states = length ms;
      }) merged_nodes
      ∙ (λ i. record {
        table = record { prod0 = t.prod0; k = t.k; rows = heads_rows hs i };
        states = length-map hs head_node i;
      })
