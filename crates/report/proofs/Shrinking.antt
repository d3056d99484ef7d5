-- What shrink answers, as the report on a table goes by it. Assumes nothing.
use Prim.Native.Nat.{ℕ, ◌<◌, ◌≤◌, ◌/◌}
use mathlib.Core.Path.{◌≡◌, refl, ap, sym, ◌∙◌}
use mathlib.Core.List.{List}
use native.Mathlib.Omega.{arith}
use borrow.Author.Tests.{le-ltb}
use lib.ListN.{length}
use lib.IntN.{ℤ}
use Rattle.paper.specs.declared.Mode.{Mode}
use Rattle.paper.specs.declared.Mode.TheVariants.{Archive, Intake}
use Rattle.paper.specs.declared.Refusal.{Refusal}
use Rattle.paper.specs.declared.Heading.{Heading}
use Rattle.std.specs.Prelude.{Ok, Err}
use Rattle.paper.specs.Rows.{Table, table, rows_in, states, signed}
use Rattle.paper.specs.Answers as answers
use Rattle.paper.specs.Answers.{Ruling, accept, refuse, then, Makes, number, detail}
use Rattle.paper.specs.Checks.{little_room, range, order, shape, loose, split}
use Rattle.paper.specs.Shrink.{shrunk, shrink_table, shrink}
use Rattle.paper.specs.Tabrep.{lines_of}
use Rattle.rows.proofs.Rest.{length_rows}
use Rattle.rows.specs.Passed.{Passed}
use Rattle.row_checks.proofs.Judged.{measured, passed}
use Rattle.merging.proofs.States.{states_length}
use Rattle.merging.proofs.Promises.{shrunk_rows_le, shrunk_states_le}
use Rattle.laws.proofs.Refusals.{refuse_accept, refused_is}
use Rattle.text_trips.proofs.Back.{passes}
use Rattle.report_lines.specs.declared.sizes.Sizes.{Sizes}
use Rattle.report_lines.specs.Printed.{three}
use Rattle.report.specs.Rulings.{Rising, Sized, of_table}

-- the heading of what shrink makes
abbrev heading : answers.Made → Heading
heading m = record {
  prod0 = signed m.table.prod0;
  k = m.table.k;
  rows = length m.table.rows;
  states = m.states;
}

-- what shrink made, by the heading that it answers
record Shrunk (mode : Mode) (t : Table) (h : Heading) : Type 0 where
  made : answers.Made
  ruled : shrink_table mode t ≡ accept made
  states : h.states ≡ made.states
  rows : h.rows ≡ length made.table.rows

module _ {p : ℤ} {k : ℕ} {ns : List ℤ} (risen : Rising p k ns) where
  pub few : length ns ≤ 16384
  few = (measured ns risen.taken.whole).few

  pub taken_passed : Passed ns
  taken_passed = passed p k ns risen.taken.ranged risen.ordered

  few_rows : length (rows_in ns) ≤ 4096
  few_rows = omega (arith, length_rows ns, few)

  -- 1 does not refuse
  shrink_is : (mode : Mode) (room : ℕ) → 16384 ≤ room → shrink mode p k ns room ≡ shrink_table mode (table p k ns)
  unfolding shrink little_room
  shrink_is mode room l = rw (risen.taken.whole, le-ltb room 16384 l)

  -- the sizes have five digits at most
  pub table_small : (length (states (rows_in ns)) < 100000) × (length ns / 4 < 100000)
  table_small = (omega (arith, states_length (rows_in ns), few_rows), omega (arith, few))

  made_small : (mode : Mode) (m : answers.Made) → shrink_table mode (table p k ns) ≡ accept m →
      (m.states < 100000) × (length m.table.rows < 100000)
  unfolding shrink_table
  made_small mode m ruled =
      let t = table p k ns in
      let a = passes (range t) 2 _ m ruled in
      let b = passes (order t) 3 _ m a.1 in
      let c = passes (shape t) 4 _ m b.1 in
      let d = passes (loose t) 5 _ m c.1 in
      let e = passes (split t) 6 _ m d.1 in
      let same : shrunk mode t ≡ m = let q = e.1 in cc in
      let states_le : m.states ≤ length (states (rows_in ns)) = rw same at (shrunk_states_le mode t c.0) in
      let rows_le : length m.table.rows ≤ length (rows_in ns) = rw same at (shrunk_rows_le mode t c.0) in
      (omega (arith, states_le, states_length (rows_in ns), few_rows), omega (arith, rows_le, few_rows))

  module _ (mode : Mode) (room : ℕ) (l : 16384 ≤ room) {old new : List ℤ} where
    pub shrunk_refused : (f : Refusal) → Makes (shrink mode p k ns room) (Err f) old new →
        shrink_table mode (table p k ns) ≡ refuse (number f) (detail f)
    shrunk_refused f m =
        sym (shrink_is mode room l) ∙ refused_is heading (shrink mode p k ns room) (number f) (detail f) m.says

    shrunk_as : (h : Heading) → Makes (shrink mode p k ns room) (Ok h) old new → Shrunk mode (table p k ns) h
    shrunk_as h m = go (shrink mode p k ns room) refl m.says
      where
        go : (r : Ruling answers.Made) → shrink mode p k ns room ≡ r →
            accept h ≡ then r (λ x. accept (heading x)) → Shrunk mode (table p k ns) h
        go (accept x) is e =
            let same : h ≡ heading x = cc in
            record {
              made = x;
              ruled = sym (shrink_is mode room l) ∙ is;
              states = ap (λ (h : Heading). h.states) same;
              rows = ap (λ (h : Heading). h.rows) same;
            }
        go (refuse c d) is e = refuse_accept (sym e)

    pub shrunk_small : (h : Heading) → Makes (shrink mode p k ns room) (Ok h) old new →
        (h.states < 100000) × (h.rows < 100000)
    shrunk_small h m =
        let s = shrunk_as h m in
        let n = made_small mode s.made s.ruled in
        (omega (arith, s.states, n), omega (arith, s.rows, n))

    pub shrunk_sized : (h : Heading) → Makes (shrink mode p k ns room) (Ok h) old new → (x : Sizes) →
        x.states ≡ h.states → x.rows ≡ h.rows → Sized mode (table p k ns) x
    shrunk_sized h m x e f =
        let s = shrunk_as h m in
        record { shrunk = s.made; ruled = s.ruled; states = e ∙ s.states; rows = f ∙ s.rows }

-- the report on a table
pub archive_refused : (t : Table) {n : ℕ} {d : List ℕ} → shrink_table Archive t ≡ refuse n d → of_table t ≡ refuse n d
unfolding of_table
archive_refused t e = rw e

module _ {t : Table} {a : Sizes} (archive : Sized Archive t a) where
  pub intake_refused : {n : ℕ} {d : List ℕ} → shrink_table Intake t ≡ refuse n d → of_table t ≡ refuse n d
  unfolding of_table
  intake_refused e = rw (archive.ruled, e)

  pub both_shrunk : {i : Sizes} → Sized Intake t i → (x : Sizes) → x.states ≡ length (states t.rows) →
      x.rows ≡ length t.rows → of_table t ≡ accept (three x a i)
  unfolding of_table lines_of three
  both_shrunk intake x s r =
      rw (archive.ruled, intake.ruled, s, r, archive.states, archive.rows, intake.states, intake.rows)
