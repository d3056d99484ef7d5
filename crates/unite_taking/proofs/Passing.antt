-- What a table that passed 1 to 7 is: a tree with at most 1,023 rows, within its bounds.
-- Assumes nothing.
use mathlib.Core.Path.{◌≡◌, refl}
use mathlib.Core.List.{List}
use Prim.Native.Nat.{ℕ, zero, suc, ◌≤◌}
use native.Mathlib.Omega.{arith}
use lib.ListN.{length}
use lib.IntN.{ℤ}
use Rattle.laws.proofs.Every.{every_in}
use Rattle.paper.specs.Rows.{accepting, rows_in, table}
use Rattle.paper.specs.Checks.{row_fits, order, shape, loose, split, no_tree}
use Rattle.rows.specs.Places.{code, bare}
use Rattle.rows.specs.Passed.{Passed}
use Rattle.rows.proofs.Rest.{length_rows}
use Rattle.rows.proofs.Fits.{fit}
use Rattle.row_checks.proofs.Judged.{bounded}
use Rattle.ruled.specs.Beyond.{TreeTable}
use Rattle.ruled.proofs.Passes.{Tree, tree_passed, ruled_rows}
use Rattle.trees.specs.Trees as trees
use Rattle.trees.proofs.Tree.{into}
use Rattle.trees.proofs.Checked.{passes_tree}
use Rattle.unite_taking.specs.Taking.{Treed}

module _ (p : ℤ) (k : ℕ) (ns : List ℤ) (s : TreeTable p k ns) where
  checks : Tree (table p k ns)
  checks = tree_passed (table p k ns) s.checked

  pub rows_passed : Passed ns
  rows_passed = ruled_rows p k ns checks.ruled

  pub prod0_in : code (accepting p) ≤ 65536
  prod0_in = (bounded (table p k ns) checks.ruled.range).prod0

  checked : trees.Treed (bare ns)
  unfolding order shape loose split no_tree
  checked = record {
    ordered = checks.ruled.order;
    shaped = checks.ruled.shape;
    held = checks.ruled.loose;
    whole = checks.ruled.split;
    once = checks.tree;
  }

  -- as many rows as states, and a state is at most 1,023
  few_rows : length (rows_in ns) ≤ 1023
  few_rows = go (length (rows_in ns)) refl
    where
      go : (n : ℕ) → length (rows_in ns) ≡ n → n ≤ 1023
      go zero e = omega arith
      go (suc n) e =
          let (x, i, d) = into (rows_in ns) (passes_tree (bare ns) checked) (length (rows_in ns)) (omega arith)
          (omega arith) in
          omega (arith, d, e, (fit x (every_in row_fits (rows_in ns) rows_passed.fits x i)).to)

  pub treed : Treed ns
  treed = record {
    passed = rows_passed;
    checked = checked;
    whole = omega (arith, few_rows, length_rows ns, s.sized.fours);
    fours = s.sized.fours;
  }
