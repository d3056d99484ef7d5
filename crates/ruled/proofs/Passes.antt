-- What a table is that passed 2 to 6, or 2 to 7.
-- Assumes nothing.
use mathlib.Core.Path.{◌≡◌}
use mathlib.Core.Bool.{false}
use mathlib.Core.List.{List}
use Prim.Native.Nat.{ℕ}
use lib.IntN.{ℤ}
use Rattle.paper.specs.Rows.{Table, table}
use Rattle.paper.specs.Checks.{range, order, shape, loose, split, no_tree, ruled, tree}
use Rattle.rows.specs.Passed.{Passed}
use Rattle.row_checks.specs.Verdicts.{Passes}
use Rattle.row_checks.proofs.Judged.{passes_first, passed}

-- A table that 2 to 6 do not refuse.
pub record Ruled (t : Table) : Type 0 where
  pub range : range t ≡ false
  pub order : order t ≡ false
  pub shape : shape t ≡ false
  pub loose : loose t ≡ false
  pub split : split t ≡ false

-- A table that 2 to 7 do not refuse.
pub record Tree (t : Table) : Type 0 where
  pub ruled : Ruled t
  pub tree : no_tree t ≡ false

pub ruled_passed : (t : Table) → Passes (ruled t) → Ruled t
ruled_passed t j =
    let a = passes_first j in
    let b = passes_first a.1 in
    let c = passes_first b.1 in
    let d = passes_first c.1 in
    let e = passes_first d.1 in
    record { range = a.0; order = b.0; shape = c.0; loose = d.0; split = e.0 }

pub tree_passed : (t : Table) → Passes (tree t) → Tree t
tree_passed t j =
    let a = passes_first j in
    let b = passes_first a.1 in
    let c = passes_first b.1 in
    let d = passes_first c.1 in
    let e = passes_first d.1 in
    let f = passes_first e.1 in
    record {
      ruled = record { range = a.0; order = b.0; shape = c.0; loose = d.0; split = e.0 };
      tree = f.0;
    }

-- its rows
pub ruled_rows : (p : ℤ) (k : ℕ) (ns : List ℤ) → Ruled (table p k ns) → Passed ns
ruled_rows p k ns r = passed p k ns r.range r.order
