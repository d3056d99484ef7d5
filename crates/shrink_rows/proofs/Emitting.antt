-- The rows of a state written one after the other, and those of one head after another.
-- Assumes rows into one state of one production, and the new numbers of marks.
use mathlib.Core.Path.{◌≡◌, refl, sym, ap, ◌∙◌, subst}
use mathlib.Core.Logic.{⊎_elim}
use mathlib.Core.Bool.{Bool, true, false, cond}
use mathlib.Core.Option.{Option, none}
use mathlib.Core.List.{List, [], ◌∷◌, ◌++◌, map, append_assoc, append-nil}
use Prim.Native.Nat.{ℕ, zero, suc, ◌+◌, ◌/◌, ◌≤◌, ◌<◌}
use native.Mathlib.Omega.{arith}
use native.Mathlib.Numerals.{add-one}
use lib.Dec.{ltb}
use lib.ListN.{length, get_or, length-append, length-map}
use lib.IntN.{ℤ}
use Rattle.laws.proofs.Members.{In, here, there, where_in}
use Rattle.paper.specs.Rows.{Row, Table, rows_in, states}
use Rattle.paper.specs.Checks.{split}
use Rattle.paper.specs.Shrink.{production_of, rows_of}
use Rattle.rows.specs.Places.{row_at, rest}
use Rattle.rows.proofs.Rest.{rest_cons, length_rows}
use Rattle.merging.specs.Numbers.{Ascending, asc_nil, asc_cons}
use Rattle.merging.specs.Marks.{heads_of, lowest_of, place_among, under, marked_row, marked_rows}
use Rattle.merging.proofs.States.{rows_of_state}
use Rattle.merging.proofs.Ruled.{row_production}
use Rattle.merging.proofs.Ends.{in_heads}
use Rattle.merging.proofs.Output.{marked_length}
use Rattle.merging.proofs.Loops.{
  under_next,
  under_skip,
  under_zero,
  under_all,
  place_next,
  place_skip,
  marked_rows_next,
}
use Rattle.shrink_alike.specs.Index.{leaves}
use Rattle.shrink_alike.specs.Faces.{coded, mark_in}
use Rattle.shrink_alike.specs.States.{Topped}
use Rattle.shrink_places.specs.Numbers.{Named, Placed}
use Rattle.shrink_rows.specs.Output.{new_row, new_pair, Written, Emitted, all_rows}
use Rattle.shrink_alike.proofs.Begins.{Standing, Walk, stand_row, stand_end, leaves_yes}
use Rattle.shrink_places.proofs.Counting.{heads_rise, head_state}
use Rattle.shrink_rows.proofs.Writing.{written_none, written_more}

-- a row at a place is a row of the slice
pub row_in : (ns : List ℤ) (i : ℕ) → i < length ns / 4 → In (row_at ns i) (rows_in ns)
row_in ns i l = back i (omega arith) (lies i (omega arith) here)
  where
    -- in a row and those after it, so in the rows from its place on
    lies : (j : ℕ) → j < length ns / 4 → In (row_at ns i) (row_at ns j ∷ rest ns (j + 1))
        → In (row_at ns i) (rest ns j)
    lies j h k = subst (λ (rs : List Row). In (row_at ns i) rs) (sym (rest_cons ns j (omega arith))) k

    back : (j : ℕ) → j ≤ i → In (row_at ns i) (rest ns j) → In (row_at ns i) (rows_in ns)
    back zero h k = k
    back (suc j) h k =
        let e : suc j ≡ j + 1 = omega arith in
        back j (omega arith) (lies j (omega arith) (there (rw e at k)))

-- ---- the rows of a state

module _ (ns : List ℤ) (class number : List ℕ) (h f : ℕ) where
  abbrev pair : ℕ × ℕ → Row
  pair o = new_pair (mark_in class) (rows_in ns) number f o

  -- the rows before row i are written
  pub record Emitting (old out : List ℤ) (at o i : ℕ) : Type 0 where
    pub stands : Standing ns h i
    pub done : List Row
    pub written : Written old out at o done
    pub left : done ++ map (new_pair (mark_in class) (rows_in ns) number f) (rows_of (rest ns i) h)
        ≡ map (new_pair (mark_in class) (rows_in ns) number f) (rows_of (rows_in ns) h)

  pub emit_start : (old : List ℤ) (at i : ℕ) → Walk ns h i → Emitting old old at at i
  emit_start old at i w = record {
    stands = w.stands;
    done = [];
    written = written_none old at;
    left = ap (map pair) w.whole;
  }

  left_row : (i : ℕ) → Standing ns h i → leaves ns h i ≡ true → split (coded none ns) ≡ false
      → map pair (rows_of (rest ns i) h) ≡ new_row ns class number f i ∷ map pair (rows_of (rest ns (i + 1)) h)
  left_row i w e s =
      let r = row_at ns i in
      let q : production_of none (rows_in ns) r.to ≡ r.production =
      row_production (coded none ns) s r (row_in ns i (leaves_yes ns h i e).0) in
      ap (map pair) (stand_row w e)
      ∙ ap (λ (p : Option ℕ). record {
        from = f;
        terminal = r.terminal;
        to = get_or number (mark_in class r.to) 0;
        production = p;
      } ∷ map pair (rows_of (rest ns (i + 1)) h)) q

  module _ (old out : List ℤ) (at o i : ℕ) (k : Emitting old out at o i) (e : leaves ns h i ≡ true)
      (s : split (coded none ns) ≡ false) where
    -- there is room for the row
    pub emit_room : o < at + length (rows_of (rows_in ns) h)
    emit_room =
        let a = ap length k.left ∙ length-map (rows_of (rows_in ns) h) pair in
        let b = length-append k.done (map pair (rows_of (rest ns i) h)) in
        let c = ap length (left_row i k.stands e s) in
        omega (arith, a, b, c, k.written.ends)

    pub emit_next : (new : List ℤ) → Standing ns h (i + 1)
        → Written out new o (o + 1) (new_row ns class number f i ∷ [])
        → Emitting old new at (o + 1) (i + 1)
    emit_next new n w = record {
      stands = n;
      done = k.done ++ (new_row ns class number f i ∷ []);
      written = written_more k.written w;
      left =
          append_assoc k.done (new_row ns class number f i ∷ []) (map pair (rows_of (rest ns (i + 1)) h))
          ∙ ap (λ (l : List Row). k.done ++ l) (sym (left_row i k.stands e s))
          ∙ k.left;
    }

  pub emit_end : (old out : List ℤ) (at o i : ℕ) → Emitting old out at o i → leaves ns h i ≡ false
      → Emitted ns class number h f old out at o
  emit_end old out at o i k e =
      let q : k.done ≡ map pair (rows_of (rows_in ns) h) =
      sym (append-nil k.done)
      ∙ ap (λ (l : List (ℕ × ℕ)). k.done ++ map pair l) (sym (stand_end k.stands e))
      ∙ k.left in
      subst (Written old out at o) q k.written

-- ---- the rows of heads

under_in : (xs : List ℕ) (s x : ℕ) → In x (under xs s) → In x xs
unfolding under
under_in [] s x i = i
under_in (y ∷ xs) s x i = go (ltb y s) i (under_in xs s x)
  where
    go : (b : Bool) → In x (cond b (y ∷ under xs s) (under xs s)) → (In x (under xs s) → In x xs) → In x (y ∷ xs)
    go true j ih = ⊎_elim (λ e. subst (λ (z : ℕ). In z (y ∷ xs)) (sym e) here) (λ k. there (ih k)) (where_in j)
    go false j ih = there (ih j)

under_rises : (xs : List ℕ) (s : ℕ) → Ascending xs → Ascending (under xs s)
unfolding under
under_rises [] s a = asc_nil
under_rises (x ∷ xs) s (asc_cons h a) = go (ltb x s) (under_rises xs s a)
  where
    go : (b : Bool) → Ascending (under xs s) → Ascending (cond b (x ∷ under xs s) (under xs s))
    go true ih = asc_cons (λ y i. h y (under_in xs s y i)) ih
    go false ih = ih

-- the rows of the heads below s
abbrev pub rows_below : List ℤ → List ℕ → ℕ → List Row
rows_below ns class s =
    marked_rows (mark_in class) (coded none ns) (heads_of (mark_in class) (coded none ns))
    (under (heads_of (mark_in class) (coded none ns)) s)

module _ (ns : List ℤ) (class number : List ℕ) (nm : Named (coded none ns) class) where
  abbrev t : Table
  t = coded none ns

  abbrev mark : ℕ → ℕ
  mark s = mark_in class s

  abbrev hs : List ℕ
  hs = heads_of (mark_in class) (coded none ns)

  abbrev below : ℕ → List Row
  below s = rows_below ns class s

  -- no more rows than there were
  rows_few : (s : ℕ) → length (below s) ≤ length ns / 4
  rows_few s =
      let l = marked_length (mark_in class) (coded none ns) hs (under hs s) (under_rises hs s (heads_rise t class))
      (λ x y i j e.
      let a = in_heads mark (states t.rows) (states t.rows) x (under_in hs s x i) in
      let b = in_heads mark (states t.rows) (states t.rows) y (under_in hs s y j) in
      let q : mark x ≡ mark y = sym (nm.source x a.0) ∙ e ∙ nm.source y b.0 in
      sym a.1 ∙ ap (lowest_of mark (states t.rows)) q ∙ b.1) in
      omega (arith, l, length_rows ns)

  module _ (p : Placed (coded none ns) class number) (s m : ℕ) (i : In s (heads_of (mark_in class) (coded none ns)))
      (e : m ≡ place_among (heads_of (mark_in class) (coded none ns)) s) where
    pairs_rows : (os : List (ℕ × ℕ)) → ((o : ℕ × ℕ) → In o os → In o.1 (states (rows_in ns)))
        → map (new_pair (mark_in class) (rows_in ns) number m) os ≡ map (marked_row mark t hs s) os
    unfolding marked_row
    pairs_rows [] sub = refl
    pairs_rows (o ∷ os) sub = λ j. record {
      from = e j;
      terminal = o.0;
      to = p.placed o.1 (sub o here) j;
      production = production_of none (rows_in ns) o.1;
    } ∷ pairs_rows os (λ q k. sub q (there k)) j

    rows_head : below (s + 1)
        ≡ below s ++ map (new_pair (mark_in class) (rows_in ns) number m) (rows_of (rows_in ns) (mark_in class s))
    rows_head =
        ap (λ (n : ℕ). below n) (add-one s)
        ∙ ap (marked_rows mark t hs) (under_next hs (heads_rise t class) s i)
        ∙ marked_rows_next mark t hs (under hs s) s
        ∙ ap (λ (h : ℕ). below s ++ map (marked_row mark t hs s) (rows_of (rows_in ns) h))
        (nm.source s (head_state t class s i))
        ∙ ap (λ (l : List Row). below s ++ l)
        (sym (pairs_rows (rows_of (rows_in ns) (mark s)) (λ o k. rows_of_state (rows_in ns) (mark s) o k)))

    -- there is room for a head's rows
    pub heads_room : (old out : List ℤ) (o : ℕ) → Written old out 0 o (below s) → length ns ≤ 16384
        → o + length (rows_of (rows_in ns) (mark_in class s)) ≤ 4096
    heads_room old out o w few =
        let pr : ℕ × ℕ → Row = new_pair (mark_in class) (rows_in ns) number m in
        let a = ap length rows_head in
        let b = length-append (below s) (map pr (rows_of (rows_in ns) (mark s))) in
        let c = length-map (rows_of (rows_in ns) (mark s)) pr in
        omega (arith, a, b, c, rows_few (s + 1), w.ends, few)

    pub heads_next : (old out new : List ℤ) (o r h : ℕ) → Written old out 0 o (below s) → h ≡ mark_in class s
        → Emitted ns class number h m out new o r → Written old new 0 r (below (s + 1))
    heads_next old out new o r h v q w = subst (Written old new 0 r) (sym rows_head)
        (written_more v (subst (λ (x : ℕ). Emitted ns class number x m out new o r) q w))

    pub heads_place : m + 1 ≡ place_among (heads_of (mark_in class) (coded none ns)) (s + 1)
    heads_place =
        add-one m ∙ ap suc e ∙ sym (place_next hs (heads_rise t class) s i) ∙ ap (place_among hs) (sym (add-one s))

  -- no head at s
  module _ (s : ℕ) (off : In s (heads_of (mark_in class) (coded none ns)) → ⊥) where
    pub heads_skip : (old out : List ℤ) (o : ℕ) → Written old out 0 o (below s) → Written old out 0 o (below (s + 1))
    heads_skip old out o w = subst (Written old out 0 o)
        (sym (ap (λ (n : ℕ). below n) (add-one s) ∙ ap (marked_rows mark t hs) (under_skip hs s off))) w

    pub place_past : (m : ℕ) → m ≡ place_among (heads_of (mark_in class) (coded none ns)) s
        → m ≡ place_among (heads_of (mark_in class) (coded none ns)) (s + 1)
    place_past m e = e ∙ sym (place_skip hs s off) ∙ ap (place_among hs) (sym (add-one s))

  pub heads_start : (old : List ℤ) → Written old old 0 0 (below 0)
  unfolding marked_rows
  heads_start old = subst (Written old old 0 0) (sym (ap (marked_rows mark t hs) (under_zero hs)))
      (written_none old 0)

  pub heads_end : (top : ℕ) → Topped (rows_in ns) top → (old out : List ℤ) (o s : ℕ) → s ≡ top
      → Written old out 0 o (below s) → Written old out 0 o (all_rows (mark_in class) (coded none ns))
  heads_end top tops old out o s e w = subst (Written old out 0 o)
      (ap (λ (n : ℕ). below n) e
      ∙ ap (marked_rows mark t hs) (under_all hs top (λ x i. tops.all x (head_state t class x i)))) w
