-- The rows of the table of some marks are in range where the table's are.
-- Assumes marks (`Marks`) of a table whose rows climb (`shape` does not refuse).
use mathlib.Core.Path.{◌≡◌, ◌∙◌, ap}
use mathlib.Core.Logic.{⊎_elim}
use mathlib.Core.Bool.{Bool, true, false, ◌&&◌}
use Prim.Native.Nat.{ℕ, ◌≤◌}
use native.Mathlib.Omega.{arith}
use lib.Dec.{leb}
use borrow.Author.Tests.{leb-true, le-leb}
use Rattle.laws.proofs.Every.{both, first_of, second_of, every_true, every_in}
use Rattle.laws.proofs.Members.{In}
use Rattle.paper.specs.declared.Mode.{Mode}
use Rattle.paper.specs.Rows.{Row, Table, states}
use Rattle.paper.specs.Checks.{shape, every, production_fits, row_fits}
use Rattle.paper.specs.Shrink.{production_of}
use Rattle.merging.specs.Marks.{head_of, source_of, heads_of, place_among, marked_row, marked_rows, Marks}
use Rattle.merging.proofs.Ends.{in_heads}
use Rattle.merging.proofs.States.{in_states, rows_of_in, rows_of_state}
use Rattle.merging.proofs.Ruled.{production_cases}
use Rattle.merging.proofs.Places.{place_low}
use Rattle.merging.proofs.Shrunk.{head_lowest, heads_ascending}
use Rattle.merging.proofs.Output.{in_marked}

-- a row's four bounds
record Bounds (r : Row) : Type 0 where
  pub from : r.from ≤ 1023
  pub terminal : r.terminal ≤ 65535
  pub to : r.to ≤ 1023
  pub production : production_fits r.production ≡ true

bounds : (r : Row) → row_fits r ≡ true → Bounds r
unfolding row_fits
bounds r e =
    let at_from : Bool = leb r.from 1023 && leb r.terminal 65535 in
    let at_to : Bool = leb r.to 1023 && production_fits r.production in
    let left = first_of at_from at_to e in
    let right = second_of at_from at_to e in
    record {
      from = leb-true r.from 1023 (first_of (leb r.from 1023) (leb r.terminal 65535) left);
      terminal = leb-true r.terminal 65535 (second_of (leb r.from 1023) (leb r.terminal 65535) left);
      to = leb-true r.to 1023 (first_of (leb r.to 1023) (production_fits r.production) right);
      production = second_of (leb r.to 1023) (production_fits r.production) right;
    }

bounded : (r : Row) → Bounds r → row_fits r ≡ true
unfolding row_fits
bounded r b = both _ _
    (both _ _ (le-leb r.from 1023 b.from) (le-leb r.terminal 65535 b.terminal))
    (both _ _ (le-leb r.to 1023 b.to) b.production)

module _ (mode : Mode) (t : Table) (climbs : shape t ≡ false) (mark : ℕ → ℕ) (k : Marks mode t mark)
    (root : production_fits t.prod0 ≡ true) (fits : every row_fits t.rows ≡ true) where
  row_bounds : (r : Row) → In r t.rows → Bounds r
  row_bounds r i = bounds r (every_in row_fits t.rows fits r i)

  state_bound : (s : ℕ) → In s (states t.rows) → s ≤ 1023
  state_bound s i = ⊎_elim
      (λ e. omega (arith, e))
      (λ w. let (r, j, e) = w in omega (arith, (row_bounds r j).to, e))
      (in_states t.rows s i)

  production_bound : (s : ℕ) → production_fits (production_of t.prod0 t.rows s) ≡ true
  production_bound s = ⊎_elim
      (λ w. ap production_fits w.0 ∙ root)
      (λ w. let (r, j, _, e) = w in ap production_fits e ∙ (row_bounds r j).production)
      (production_cases t.prod0 t.rows s)

  marked_bounds : (r : Row) → In r (marked_rows mark t (heads_of mark t) (heads_of mark t)) → Bounds r
  unfolding marked_row
  marked_bounds r i =
      let (s, a, o, b, e) = in_marked mark t (heads_of mark t) (heads_of mark t) r i in
      let (x, c, _, f) = rows_of_in t.rows (source_of mark t s) o b in
      let to_in = rows_of_state t.rows (source_of mark t s) o b in
      let asc = heads_ascending mode t climbs mark k in
      let from_low = place_low (heads_of mark t) asc s in
      let to_low = place_low (heads_of mark t) asc (head_of mark t o.1) in
      let s_bound = state_bound s (in_heads mark (states t.rows) (states t.rows) s a).0 in
      let head_bound = state_bound (head_of mark t o.1) (head_lowest mode t climbs mark k o.1 to_in).is_in in
      let from_is : r.from ≡ place_among (heads_of mark t) s = ap (λ (z : Row). z.from) e in
      let to_is : r.to ≡ place_among (heads_of mark t) (head_of mark t o.1) = ap (λ (z : Row). z.to) e in
      let terminal_is : r.terminal ≡ x.terminal =
      ap (λ (z : Row). z.terminal) e ∙ ap (λ (q : ℕ × ℕ). q.0) f in
      record {
        from = omega (arith, from_is, from_low, s_bound);
        terminal = omega (arith, terminal_is, (row_bounds x c).terminal);
        to = omega (arith, to_is, to_low, head_bound);
        production = ap (λ (z : Row). production_fits z.production) e ∙ production_bound o.1;
      }

  pub marked_fit : every row_fits (marked_rows mark t (heads_of mark t) (heads_of mark t)) ≡ true
  marked_fit = every_true row_fits (marked_rows mark t (heads_of mark t) (heads_of mark t))
      (λ r i. bounded r (marked_bounds r i))
