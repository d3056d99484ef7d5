-- Shrink in its parts: the refusals, and the answer of a table that passed them.
-- Assumes classes of its states and the rows written for them.
use Rattle.std.specs.Prelude.{Result, Ok, Err}
use mathlib.Core.Path.{◌≡◌, refl, sym, ap, ◌∙◌, subst}
use mathlib.Core.Bool.{false}
use mathlib.Core.Option.{Option, none}
use mathlib.Core.List.{List, [], ◌∷◌, ◌++◌, map}
use Prim.Native.Nat.{ℕ, zero, suc, ◌≤◌, ◌<◌}
use native.Mathlib.Omega.{arith}
use borrow.Author.Tests.{lt-ltb, le-ltb}
use lib.ListN.{length}
use lib.IntN.{ℤ, pos, negsuc}
use Rattle.laws.proofs.Members.{In, here, there}
use Rattle.paper.specs.declared.Mode.{Mode}
use Rattle.paper.specs.declared.Heading.{Heading}
use Rattle.paper.specs.declared.Refusal.{Refusal}
use Rattle.paper.specs.Rows.{Row, Table, accepting, signed, rows_in, table}
use Rattle.paper.specs.Answers.{Ruling, accept, refuse, Made, Makes, number, detail}
use Rattle.paper.specs.Checks.{row_slice, little_room, split, ruled}
use Rattle.paper.specs.Shrink.{production_of, rows_of, shrunk, shrink_table, shrink}
use Rattle.rows.specs.Places.{code}
use Rattle.rows.proofs.Rest.{by_test}
use Rattle.row_checks.specs.Verdicts.{Judges, sized, follow}
use Rattle.row_checks.proofs.Judged.{judged, bounded}
use Rattle.counts.specs.Arrays.{Fitting}
use Rattle.ruled.specs.Beyond.{RuledTable}
use Rattle.ruled.proofs.Passes.{ruled_passed}
use Rattle.merging.specs.Marks.{source_of, heads_of, marked_row, marked_rows, marked, Marks}
use Rattle.merging.proofs.States.{rows_of_in}
use Rattle.merging.proofs.Ruled.{row_production}
use Rattle.merging.proofs.Shrunk.{shrunk_by_marks}
use Rattle.shrink_alike.specs.Faces.{coded, mark_in}
use Rattle.shrink_classes.specs.Classes.{Classes}
use Rattle.shrink_places.specs.Numbers.{Named}
use Rattle.shrink_rows.specs.Output.{Written, all_rows, Shrunk}
use Rattle.shrink_alike.proofs.Bare.{split_rows}
use Rattle.shrink_alike.proofs.Entered.{state_small}
use Rattle.shrink_classes.proofs.Marking.{class_marks, class_state, class_source}
use Rattle.shrink_rows.proofs.Writing.{written_front}

pub ruled_split : {p : ℤ} {k : ℕ} {ns : List ℤ} → RuledTable p k ns → split (coded none ns) ≡ false
ruled_split {p} {k} {ns} s =
    split_rows (accepting p) none k 0 (rows_in ns) (ruled_passed (table p k ns) s.checked).split

-- ---- classes and marks

pub classes_named : (mode : Mode) (p0 : Option ℕ) (ns : List ℤ) (class : List ℕ) → Fitting ns
    → Classes mode (coded p0 ns) class → Named (coded none ns) class
classes_named mode p0 ns class f k = record {
  small = λ s i. state_small ns f (mark_in class s) (class_state k s i);
  source = λ s i. class_source k s i;
}

-- marks do not look at k
marks_k : (mode : Mode) (p : Option ℕ) (k l : ℕ) (rs : List Row) (mark : ℕ → ℕ)
    → Marks mode (record { prod0 = p; k = k; rows = rs }) mark
    → Marks mode (record { prod0 = p; k = l; rows = rs }) mark
marks_k mode p k l rs mark m = record {
  one = λ a b i j e. let h = m.one a b i j e in record { production = h.production; rows = h.rows };
  two = λ a b i j h. m.two a b i j (record { production = h.production; rows = h.rows });
}

-- ---- the rows do not look at prod0, where rows into one state have one production

module _ (p q : Option ℕ) (k l : ℕ) (rs : List Row) (s : split (record { prod0 = p; k = k; rows = rs }) ≡ false)
    (mark : ℕ → ℕ) where
  abbrev t : Table
  t = record { prod0 = p; k = k; rows = rs }

  abbrev u : Table
  u = record { prod0 = q; k = l; rows = rs }

  same_production : (h : ℕ) (o : ℕ × ℕ) → In o (rows_of rs h) → production_of p rs o.1 ≡ production_of q rs o.1
  same_production h o i =
      let (r, j, _, e) = rows_of_in rs h o i in
      let to : o.1 ≡ r.to = ap (λ (x : ℕ × ℕ). x.1) e in
      ap (production_of p rs) to ∙ row_production t s r j
      ∙ sym (ap (production_of q rs) to ∙ row_production u (split_rows p q k l rs s) r j)

  pairs_same : (hs : List ℕ) (x : ℕ) (os : List (ℕ × ℕ))
      → ((o : ℕ × ℕ) → In o os → production_of p rs o.1 ≡ production_of q rs o.1)
      → map (marked_row mark t hs x) os ≡ map (marked_row mark u hs x) os
  unfolding marked_row
  pairs_same hs x [] e = refl
  pairs_same hs x (o ∷ os) e = λ i. record {
    from = (marked_row mark t hs x o).from;
    terminal = o.0;
    to = (marked_row mark t hs x o).to;
    production = e o here i;
  } ∷ pairs_same hs x os (λ y j. e y (there j)) i

  rows_same : (hs xs : List ℕ) → marked_rows mark t hs xs ≡ marked_rows mark u hs xs
  unfolding marked_rows
  rows_same hs [] = refl
  rows_same hs (x ∷ xs) = λ i.
      pairs_same hs x (rows_of rs (source_of mark t x)) (λ o j. same_production (source_of mark t x) o j) i
      ++ rows_same hs xs i

-- ---- the answer

abbrev heading : ℤ → ℕ → ℕ → ℕ → Result Heading Refusal
heading p k n s = Ok (record { prod0 = p; k = k; rows = n; states = s })

signed_back : (p : ℤ) → code (accepting p) ≤ 65536 → signed (accepting p) ≡ p
signed_back (pos n) l = refl
signed_back (negsuc zero) l = refl
signed_back (negsuc (suc n)) l = absurd (omega arith)

module _ (mode : Mode) (p : ℤ) (k : ℕ) (ns : List ℤ) (sound : RuledTable p k ns) where
  shrunk_as : (p0 : Option ℕ) → p0 ≡ accepting p → (class : List ℕ) → Classes mode (coded p0 ns) class
      → shrunk mode (table p k ns) ≡ marked (mark_in class) (table p k ns)
  shrunk_as p0 e class c =
      let r = ruled_passed (table p k ns) sound.checked in
      let m : Marks mode (record { prod0 = accepting p; k = 0; rows = rows_in ns }) (mark_in class) =
      subst (λ (x : Option ℕ). Marks mode (record { prod0 = x; k = 0; rows = rows_in ns }) (mark_in class)) e
      (class_marks c) in
      shrunk_by_marks mode (table p k ns) r.shape (mark_in class)
      (marks_k mode (accepting p) 0 k (rows_in ns) (mark_in class) m)

  answered : (old new : List ℤ) (n s : ℕ) (mark : ℕ → ℕ) → Written old new 0 n (all_rows mark (coded none ns))
      → s ≡ length (heads_of mark (coded none ns))
      → Makes (accept (marked mark (table p k ns))) (heading p k n s) old new
  unfolding marked
  answered old new n s mark w e =
      let r = ruled_passed (table p k ns) sound.checked in
      let hs : List ℕ = heads_of mark (coded none ns) in
      let b = bounded (table p k ns) r.range in
      let q : all_rows mark (coded none ns) ≡ all_rows mark (table p k ns) =
      rows_same none (accepting p) 0 k (rows_in ns) (ruled_split sound) mark hs hs in
      let v : Written old new 0 n (all_rows mark (table p k ns)) = subst (Written old new 0 n) q w in
      let len : n ≡ length (all_rows mark (table p k ns)) = omega (arith, v.ends) in
      record {
        says = λ i. accept (record {
          prod0 = sym (signed_back p b.prod0) i;
          k = k;
          rows = len i;
          states = e i;
        });
        holds = written_front old new n (all_rows mark (table p k ns)) v;
      }

  pub shrunk_answer : (p0 : Option ℕ) → p0 ≡ accepting p → (old new : List ℤ) (n s : ℕ)
      → Shrunk mode p0 ns old new n s
      → Makes (accept (shrunk mode (table p k ns))) (heading p k n s) old new
  shrunk_answer p0 e old new n s h =
      subst (λ (m : Made). Makes (accept m) (heading p k n s) old new)
      (sym (shrunk_as p0 e h.class h.classes))
      (answered old new n s (mark_in h.class) h.wrote.rows h.wrote.states)

-- ---- the refusals

pub refusal_makes : (r : Ruling Made) (f : Refusal) (old : List ℤ) → refuse (number f) (detail f) ≡ r
    → Makes r (Err f) old old
refusal_makes r f old e = subst (λ (x : Ruling Made). Makes x (Err f) old old) e (record { says = refl; holds = refl })

pub answer_makes : {q r : Ruling Made} {m : Result Heading Refusal} {old new : List ℤ} → q ≡ r → Makes q m old new
    → Makes r m old new
answer_makes {q} {r} {m} {old} {new} e h = subst (λ (x : Ruling Made). Makes x m old new) e h

module _ (mode : Mode) (p : ℤ) (k : ℕ) (ns : List ℤ) (room : ℕ) where
  pub refused_slice : {A : Type 0} (f : Refusal) → Judges {A = A} (sized ns) (Err f)
      → refuse (number f) (detail f) ≡ shrink mode p k ns room
  unfolding shrink
  refused_slice f j = by_test (row_slice ns)
      (λ e. rw e (sym (rw e at (judged (shrink_table mode (table p k ns)) j))))
      (λ e.
      let z : ◌≡◌ {A = Ruling ℕ} (accept 0) (refuse (number f) (detail f)) = rw e at j.says in
      absurd (let y : ◌≡◌ {A = ℕ} 0 1 = cc in omega arith))

  pub refused_room : row_slice ns ≡ false → room < 16384 → refuse 1 [] ≡ shrink mode p k ns room
  unfolding shrink little_room
  refused_room e l = rw (e, lt-ltb room 16384 l)

  -- after 1: the verdict of 2 to 6, followed by the shrunk table
  pub after_checks : {A : Type 0} → row_slice ns ≡ false → 16384 ≤ room → (v : Result A Refusal)
      → Judges (ruled (table p k ns)) v → follow v (accept (shrunk mode (table p k ns))) ≡ shrink mode p k ns room
  unfolding shrink little_room shrink_table
  after_checks e l v j = sym (judged (accept (shrunk mode (table p k ns))) j) ∙ rw (e, le-ltb room 16384 l)
