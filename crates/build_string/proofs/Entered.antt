-- One token: along its row, or into a new state, as document 01 has it.
-- Assumes nothing.
use mathlib.Core.Path.{◌≡◌, ap, sym, ◌∙◌}
use mathlib.Core.Option.{none, some}
use mathlib.Core.List.{List}
use Prim.Native.Nat.{ℕ, suc, ◌<◌, ◌≤◌}
use native.Mathlib.Omega.{arith}
use native.Mathlib.Numerals.{add-one}
use lib.ListN.{length}
use lib.IntN.{ℤ}
use Rattle.std.specs.Prelude.{Option, Some, None}
use Rattle.paper.specs.Rows.{Row, find}
use Rattle.paper.specs.Build.{Standing, insert, enter}
use Rattle.trees.proofs.Find.{length_insert}
use Rattle.grow_laws.specs.Held.{held, row_held, Laid, Missed, next}
use Rattle.grow_laws.proofs.Written.{held_length}
use Rattle.grow_laws.proofs.Placed.{room}
use Rattle.grow_laws.proofs.Viewed.{to_small}
use Rattle.grow.specs.declared.Growing.{Growing}
use Rattle.grow.specs.Seen.{seen, rows_of, Grown}
use Rattle.build_string.specs.Steps.{Leads, Stands}

pub state_small : (buf : List ℤ) (n s : ℕ) (at : Option ℕ) → Laid buf n → Leads buf n s at → s ≤ 1023
state_small buf n s None l d = omega (arith, d)
state_small buf n s (Some i) l d = omega (arith, d.1, to_small buf n i l d.0)

module _ (g : Growing) (s t : ℕ) where
  abbrev rs : List Row
  rs = rows_of g

  rows_long : length rs ≡ g.n
  rows_long = held_length (seen g) g.n (room (seen g) g.n g.laid)

  -- along its row
  pub goes : (i to : ℕ) → i < g.n → find rs s t ≡ some (row_held (seen g) g.n i)
      → to ≡ (row_held (seen g) g.n i).to → Stands g to (Some i) (enter rs s t (find rs s t))
  unfolding enter
  goes i to h e d = record { is = rw e (λ j. record { rows = rs; state = d j }); leads = (h, sym d) }

  new_rows : find rs s t ≡ none → enter rs s t (find rs s t)
      ≡ record { rows = insert (next (length rs) s t none) rs; state = suc (length rs) }
  unfolding enter
  new_rows e = rw e

  -- a row too many
  pub overflows : (i : ℕ) → Missed (seen g) g.n i s t → 1023 ≤ g.n → 1023 < length (enter rs s t (find rs s t)).rows
  overflows i m h =
      omega (
        arith,
        rows_long,
        ap (λ (w : Standing). length w.rows) (new_rows m.new),
        length_insert (next (length rs) s t none) rs,
      )

  -- into a new state
  pub grows : (i : ℕ) (h : Growing) (to : ℕ) → Missed (seen g) g.n i s t → Grown g h i s t none to
      → Stands h to (Some i) (enter rs s t (find rs s t))
  grows i h to m a =
      let k : h.n ≡ suc g.n = a.count ∙ add-one g.n in
      let w : enter rs s t (find rs s t) ≡ record { rows = insert (next g.n s t none) rs; state = suc g.n } =
      new_rows m.new ∙ ap (λ (n : ℕ). record { rows = insert (next n s t none) rs; state = suc n }) rows_long in
      rw (w, a.state, add-one) (record {
        is = λ j. record { rows = (ap (held (seen h)) k ∙ a.added.rows) j; state = suc g.n };
        leads = (
          omega (arith, a.added.there, k),
          ap (λ (n : ℕ). (row_held (seen h) n i).to) k ∙ ap (λ (x : Row). x.to) a.added.at,
        );
      })
