-- One row of the second taken into rows that grow.
-- Assumes nothing.
use mathlib.Core.Path.{◌≡◌, ap, sym, ◌∙◌, subst}
use mathlib.Core.Option.{Option, none}
use mathlib.Core.List.{List}
use Prim.Native.Nat.{ℕ, suc, ◌≤◌}
use native.Mathlib.Omega.{arith}
use native.Mathlib.Numerals.{add-one}
use lib.ListN.{length}
use Rattle.std.specs.Prelude.{Result, Ok, Err}
use Rattle.paper.specs.declared.Mode.{Mode}
use Rattle.paper.specs.declared.State.{State}
use Rattle.paper.specs.declared.Refusal.{Refusal}
use Rattle.paper.specs.Rows.{Row}
use Rattle.paper.specs.Answers.{Ruling, accept}
use Rattle.paper.specs.Build.{insert, Standing}
use Rattle.trees.proofs.Find.{length_insert}
use Rattle.grow_laws.specs.Held.{held, next}
use Rattle.grow_laws.proofs.Written.{held_length}
use Rattle.grow_laws.proofs.Placed.{room}
use Rattle.grow.specs.declared.Growing.{Growing}
use Rattle.grow.specs.Seen.{seen, rows_of, Grown, Grows}
use Rattle.unite_taking.specs.Taking.{taking, Stands, Over, Takes, Adds, full}

-- ---- a new row
module _ (g : Growing) (s t : ℕ) (q : Option ℕ) (mode : Mode) where
  as_next : taking mode (rows_of g) s t q none
      ≡ accept (record { rows = insert (next g.n s t q) (rows_of g); state = suc g.n })
  unfolding taking
  as_next =
      let e : length (rows_of g) ≡ g.n = held_length (seen g) g.n (room (seen g) g.n g.laid) in
      ap (λ (k : ℕ). accept (record { rows = insert (next k s t q) (rows_of g); state = suc k })) e

  adds_over : 1023 ≤ g.n → Over (taking mode (rows_of g) s t q none)
  adds_over h =
      let e : length (rows_of g) ≡ g.n = held_length (seen g) g.n (room (seen g) g.n g.laid) in
      record {
        standing = record { rows = insert (next g.n s t q) (rows_of g); state = suc g.n };
        is = as_next;
        over = omega (arith, length_insert (next g.n s t q) (rows_of g));
      }

  adds_row : (h : Growing) (i u : ℕ) → Grown g h i s t q u → Stands h u (taking mode (rows_of g) s t q none)
  adds_row h i u a =
      let k : h.n ≡ suc g.n = a.count ∙ add-one g.n in
      let rs : rows_of h ≡ insert (next g.n s t q) (rows_of g) = ap (held (seen h)) k ∙ a.added.rows in
      rw (a.state, add-one g.n) (record {
        small = omega (arith, k, h.laid.few);
        is = as_next ∙ ap (λ (xs : List Row). accept (record { rows = xs; state = suc g.n })) (sym rs);
      })

-- what came of it
pub adds : (g h : Growing) (i s t : ℕ) (q : Option ℕ) (r : Result State Refusal) → Grows g h i s t q r
    → Adds h (rows_of g) s t q r
adds g h i s t q (Ok x) a mode = adds_row g s t q mode h i x.0 a
adds g h i s t q (Err f) a mode = full a.0 (adds_over g s t q mode a.1)

-- what came of a row, as another says it
pub took_as : (new : Growing) (r : Result State Refusal) {g h : Ruling Standing} → g ≡ h → Takes new g r → Takes new h r
took_as new r {g} {h} p t = subst (λ (k : Ruling Standing). Takes new k r) p t
