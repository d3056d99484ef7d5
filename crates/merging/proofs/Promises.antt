-- The promises about shrink. Each law names the checks that the table has passed.
use mathlib.Core.Path.{◌≡◌, refl, sym, ◌∙◌, ap, subst}
use mathlib.Core.Logic.{⊎_elim}
use mathlib.Core.Bool.{Bool, true, false, not, ◌&&◌}
use mathlib.Core.Option.{Option}
use mathlib.Core.List.{List, [], ◌∷◌}
use Prim.Native.Nat.{ℕ, ◌≤◌, ◌<◌}
use native.Mathlib.Omega.{arith}
use lib.ListN.{length}
use lib.Dec.{eqb, leb}
use borrow.Author.Tests.{not-false, le-ltb}
use Rattle.laws.proofs.Tests.{Test, same, apart, test}
use Rattle.laws.proofs.Every.{both, first_of, second_of, any_false}
use Rattle.laws.proofs.Members.{In, in_map}
use Rattle.laws.proofs.RowsRise.{rise_rising, rising_rise}
use Rattle.laws.proofs.Productions.{same_production_refl}
use Rattle.paper.specs.declared.Mode.{Mode}
use Rattle.paper.specs.declared.Mode.TheVariants.{Intake}
use Rattle.paper.specs.Rows.{Row, Table, states}
use Rattle.paper.specs.Answers.{Made}
use Rattle.paper.specs.Checks.{order, shape, loose, split, range, rising, every, any, production_fits, row_fits}
use Rattle.paper.specs.Checks.{same_production}
use Rattle.paper.specs.Shrink.{Node, nodes, place, production_of, rows_of, gathered, merge_all, shrunk}
use Rattle.merging.specs.Classes.{Reduced}
use Rattle.merging.specs.Marks.{head_of, source_of, heads_of, place_of, lowest_of, place_among}
use Rattle.merging.specs.Marks.{marked, marked_row, marked_rows, Marks}
use Rattle.merging.specs.Reach.{reaches, reaches_from, Reached}
use Rattle.merging.proofs.Places.{place_within}
use Rattle.merging.proofs.Merging.{merge_all_reduced}
use Rattle.merging.proofs.Gathered.{gathered_le}
use Rattle.merging.proofs.Ends.{in_heads, heads_length}
use Rattle.merging.proofs.States.{zero_state, to_state, in_states, rows_of_state}
use Rattle.merging.proofs.Ruled.{nodes_climb, zero_production}
use Rattle.merging.proofs.Shrunk.{shrunk_by_marks, merged_nodes, head_node, source_highest}
use Rattle.merging.proofs.Shrunk.{head_is_head, heads_ascending, zero_head, zero_place}
use Rattle.merging.proofs.Exist.{marks_exist}
use Rattle.merging.proofs.Output.{in_marked, marked_rise, marked_length}
use Rattle.merging.proofs.Fits.{marked_fit}
use Rattle.merging.proofs.Reached.{same_from}
use Rattle.merging.proofs.AllReached.{reached_state, all_reached}
use Rattle.merging.proofs.HeadRows.{into_head}
use Rattle.merging.proofs.Unlike.{head_at, states_unlike}

-- what holds of the table of any marks holds of the shrunk table
by_any_marks : (mode : Mode) (t : Table) → shape t ≡ false → (L : Made → Type 0) →
    ((mark : ℕ → ℕ) → Marks mode t mark → L (marked mark t)) → L (shrunk mode t)
by_any_marks mode t climbs L law =
    let (mark, k) = marks_exist t climbs mode in
    subst L (sym (shrunk_by_marks mode t climbs mark k)) (law mark k)

-- Intake: every string of tokens reaches the same production as before.
pub shrunk_reaches : (t : Table) → shape t ≡ false → split t ≡ false → (us : List ℕ) →
    reaches (shrunk Intake t).table us ≡ reaches t us
unfolding reaches marked
shrunk_reaches t climbs whole us =
    by_any_marks Intake t climbs (λ m. reaches m.table us ≡ reaches t us) (λ mark k.
    let rows = marked_rows mark t (heads_of mark t) (heads_of mark t) in
    ap (λ (s : ℕ). reaches_from rows s t.prod0 us) (sym (zero_place Intake t climbs mark k))
    ∙ same_from t climbs whole mark k us 0 t.prod0 (zero_state t.rows))

-- No two states have equal production and equal rows: of the nodes that stay, reached or not,
pub shrunk_nodes_unlike : (mode : Mode) (t : Table) → shape t ≡ false →
    Reduced (merge_all (length (nodes t)) (gathered mode (nodes t)))
shrunk_nodes_unlike mode t climbs =
    merge_all_reduced (length (nodes t)) (gathered mode (nodes t)) (gathered_le (nodes t) (nodes_climb t climbs) mode)

-- and of the states of the table, by its rows.
pub shrunk_unlike : (mode : Mode) (t : Table) → shape t ≡ false → (i j : ℕ) →
    In i (states (shrunk mode t).table.rows) → In j (states (shrunk mode t).table.rows) →
    production_of t.prod0 (shrunk mode t).table.rows i ≡ production_of t.prod0 (shrunk mode t).table.rows j →
    rows_of (shrunk mode t).table.rows i ≡ rows_of (shrunk mode t).table.rows j → i ≡ j
unfolding marked
shrunk_unlike mode t climbs i j = by_any_marks mode t climbs
    (λ m. In i (states m.table.rows) → In j (states m.table.rows) →
    production_of t.prod0 m.table.rows i ≡ production_of t.prod0 m.table.rows j →
    rows_of m.table.rows i ≡ rows_of m.table.rows j → i ≡ j)
    (λ mark k. states_unlike mode t climbs mark k i j)

-- Intake: each number below the state count is reached,
pub shrunk_reached : (t : Table) → order t ≡ false → shape t ≡ false → loose t ≡ false → split t ≡ false → (i : ℕ) →
    i < (shrunk Intake t).states → Reached (shrunk Intake t).table.rows i
unfolding marked
shrunk_reached t ordered climbs rooted whole i = by_any_marks Intake t climbs
    (λ m. i < m.states → Reached m.table.rows i)
    (λ mark k. all_reached t ordered climbs rooted whole mark k i)

-- so no two of them have equal production and equal rows.
pub shrunk_intake_unlike : (t : Table) → order t ≡ false → shape t ≡ false → loose t ≡ false → split t ≡ false →
    (i j : ℕ) → i < (shrunk Intake t).states → j < (shrunk Intake t).states →
    production_of t.prod0 (shrunk Intake t).table.rows i
    ≡ production_of t.prod0 (shrunk Intake t).table.rows j →
    rows_of (shrunk Intake t).table.rows i ≡ rows_of (shrunk Intake t).table.rows j → i ≡ j
shrunk_intake_unlike t ordered climbs rooted whole i j a b = shrunk_unlike Intake t climbs i j (state i a) (state j b)
  where
    state : (x : ℕ) → x < (shrunk Intake t).states → In x (states (shrunk Intake t).table.rows)
    state x l = reached_state (shrunk Intake t).table.rows x (shrunk_reached t ordered climbs rooted whole x l)

-- Every number in a row is below the state count.
pub shrunk_within : (mode : Mode) (t : Table) → shape t ≡ false → (r : Row) → In r (shrunk mode t).table.rows →
    (r.from < (shrunk mode t).states) × (r.to < (shrunk mode t).states)
unfolding marked marked_row
shrunk_within mode t climbs r = by_any_marks mode t climbs
    (λ m. In r m.table.rows → (r.from < m.states) × (r.to < m.states))
    (λ mark k i.
    let (s, a, o, b, e) = in_marked mark t (heads_of mark t) (heads_of mark t) r i in
    let state = rows_of_state t.rows (source_of mark t s) o b in
    let from : r.from ≡ place_among (heads_of mark t) s = ap (λ (z : Row). z.from) e in
    let to : r.to ≡ place_of mark t o.1 = ap (λ (z : Row). z.to) e in
    let from_in = place_within (heads_of mark t) s a in
    let head = head_is_head mode t climbs mark k o.1 state in
    let to_in = place_within (heads_of mark t) (head_of mark t o.1) head in
    (omega (arith, from, from_in), omega (arith, to, to_in)))

-- So is every state of the table.
pub shrunk_below : (mode : Mode) (t : Table) → shape t ≡ false → (i : ℕ) →
    In i (states (shrunk mode t).table.rows) → i < (shrunk mode t).states
unfolding marked
shrunk_below mode t climbs i j = ⊎_elim
    (λ e. omega (arith, e, some_state))
    (λ w. let (r, l, e) = w in omega (arith, (shrunk_within mode t climbs r l).1, e))
    (in_states (shrunk mode t).table.rows i j)
  where
    some_state : 0 < (shrunk mode t).states
    some_state = by_any_marks mode t climbs (λ m. 0 < m.states) (λ mark k.
        omega (arith, place_within (heads_of mark t) 0 (zero_head mode t climbs mark k)))

-- All rows into one state carry one production.
pub shrunk_split : (mode : Mode) (t : Table) → shape t ≡ false → split (shrunk mode t).table ≡ false
unfolding marked split
shrunk_split mode t climbs = by_any_marks mode t climbs (λ m. split m.table ≡ false) (λ mark k.
    let us : List Row = marked_rows mark t (heads_of mark t) (heads_of mark t) in
    any_false (λ (r : Row). any (differ r) us) us (λ r i. any_false (differ r) us (λ x j. agree mark k r x i j)))
  where
    differ : Row → Row → Bool
    differ r x = eqb x.to r.to && not (same_production x.production r.production)

    agree : (mark : ℕ → ℕ) → Marks mode t mark → (r x : Row) →
        In r (marked_rows mark t (heads_of mark t) (heads_of mark t)) →
        In x (marked_rows mark t (heads_of mark t) (heads_of mark t)) → differ r x ≡ false
    agree mark k r x i j = go (test x.to r.to)
      where
        us : List Row
        us = marked_rows mark t (heads_of mark t) (heads_of mark t)

        go : Test x.to r.to (eqb x.to r.to) → differ r x ≡ false
        go (apart e f) = rw f
        go (same e f) =
            let h = head_at mode t climbs mark k r.to (to_state us r i) in
            let own_r = into_head mode t climbs mark k h.head h.is_head r i (sym h.place) in
            let own_x = into_head mode t climbs mark k h.head h.is_head x j (e ∙ sym h.place) in
            let eq : same_production x.production r.production ≡ true =
            ap (λ (p : Option ℕ). same_production p r.production) (own_x ∙ sym own_r)
            ∙ same_production_refl r.production in
            rw (f, eq)

-- State 0 stays, with prod0, under the number 0.
pub shrunk_zero : (mode : Mode) (t : Table) → shape t ≡ false →
    let ms = merge_all (length (nodes t)) (gathered mode (nodes t)) in
    (n : Node) × In n ms × (n.state ≡ 0) × (n.production ≡ t.prod0) × (place ms 0 ≡ 0)
unfolding head_node place
shrunk_zero mode t climbs =
    let (mark, k) = marks_exist t climbs mode in
    let node = head_node mode t climbs mark k 0 in
    let is = merged_nodes mode t climbs mark k in
    let heads_in = in_map (head_node mode t climbs mark k) (heads_of mark t) 0 (zero_head mode t climbs mark k) in (
      node,
      subst (λ (ms : List Node). In node ms) (sym is) heads_in,
      refl,
      zero_production t climbs,
      place_zero_node (merge_all (length (nodes t)) (gathered mode (nodes t))),
    )
  where
    place_zero_node : (ms : List Node) → place ms 0 ≡ 0
    place_zero_node [] = refl
    place_zero_node (m ∷ ms) = rw (le-ltb m.state 0 (omega arith)) (place_zero_node ms)

-- prod0 and k stay
pub shrunk_prod0 : (mode : Mode) (t : Table) → (shrunk mode t).table.prod0 ≡ t.prod0
unfolding shrunk
shrunk_prod0 mode t = refl

pub shrunk_k : (mode : Mode) (t : Table) → (shrunk mode t).table.k ≡ t.k
unfolding shrunk
shrunk_k mode t = refl

-- The rows rise.
pub shrunk_rises : (mode : Mode) (t : Table) → order t ≡ false → shape t ≡ false →
    rising (shrunk mode t).table.rows ≡ true
unfolding order marked
shrunk_rises mode t ordered climbs = by_any_marks mode t climbs
    (λ m. rising m.table.rows ≡ true)
    (λ mark k.
    let up = rising_rise t.rows (not-false (rising t.rows) ordered) in
    rise_rising (marked_rows mark t (heads_of mark t) (heads_of mark t))
    (marked_rise mark t (heads_of mark t) up (heads_of mark t) (heads_ascending mode t climbs mark k) (λ x i. i)))

pub shrunk_order : (mode : Mode) (t : Table) → order t ≡ false → shape t ≡ false → order (shrunk mode t).table ≡ false
unfolding order
shrunk_order mode t ordered climbs = ap not (shrunk_rises mode t ordered climbs)

-- They are in range.
pub shrunk_fits : (mode : Mode) (t : Table) → shape t ≡ false → production_fits t.prod0 ≡ true →
    every row_fits t.rows ≡ true → every row_fits (shrunk mode t).table.rows ≡ true
unfolding marked
shrunk_fits mode t climbs root fits = by_any_marks mode t climbs
    (λ m. every row_fits m.table.rows ≡ true)
    (λ mark k. marked_fit mode t climbs mark k root fits)

pub shrunk_range : (mode : Mode) (t : Table) → range t ≡ false → shape t ≡ false → range (shrunk mode t).table ≡ false
unfolding range
shrunk_range mode t fits climbs =
    let all : (production_fits t.prod0 && leb t.k 16) && every row_fits t.rows ≡ true = not-false _ fits in
    let first = first_of (production_fits t.prod0 && leb t.k 16) (every row_fits t.rows) all in
    let rest = second_of (production_fits t.prod0 && leb t.k 16) (every row_fits t.rows) all in
    let root = first_of (production_fits t.prod0) (leb t.k 16) first in
    let rows = shrunk_fits mode t climbs root rest in
    let own : production_fits (shrunk mode t).table.prod0 && leb (shrunk mode t).table.k 16 ≡ true =
    rw (shrunk_prod0 mode t, shrunk_k mode t) first in
    ap not (both _ _ own rows)

-- They are no more than the table's, and the states are no more.
pub shrunk_rows_le : (mode : Mode) (t : Table) → shape t ≡ false →
    length (shrunk mode t).table.rows ≤ length t.rows
unfolding marked
shrunk_rows_le mode t climbs = by_any_marks mode t climbs
    (λ m. length m.table.rows ≤ length t.rows)
    (λ mark k. marked_length mark t (heads_of mark t) (heads_of mark t) (heads_ascending mode t climbs mark k)
    (λ x y i j e.
    let (a, own_x) = in_heads mark (states t.rows) (states t.rows) x i in
    let (b, own_y) = in_heads mark (states t.rows) (states t.rows) y j in
    let marks : mark x ≡ mark y =
    sym (source_highest mode t climbs mark k x a).marked
    ∙ ap mark e
    ∙ (source_highest mode t climbs mark k y b).marked in
    sym own_x ∙ ap (lowest_of mark (states t.rows)) marks ∙ own_y))

pub shrunk_states_le : (mode : Mode) (t : Table) → shape t ≡ false →
    (shrunk mode t).states ≤ length (states t.rows)
unfolding marked
shrunk_states_le mode t climbs = by_any_marks mode t climbs
    (λ m. m.states ≤ length (states t.rows))
    (λ mark k. heads_length mark (states t.rows) (states t.rows))
