-- SPLIT is that some row differs from the first into its state. Assumes nothing.
use mathlib.Core.Path.{refl, sym, ◌∙◌}
use Prim.Native.Nat.{◌/◌}
use native.Mathlib.Omega.{arith}
use lib.ListN.{length}
use Rattle.std.proofs.Common.{rules}
use Rattle.std.proofs.lemmas.Iterator.{YieldsList-from_range}
use Rattle.std.proofs.lemmas.Iterator.Search.{any_from_yields_List}
use Rattle.paper.specs.Rows.{rows_in}
use Rattle.rows.specs.Places.{row_at}
use Rattle.ruled.specs.Into.{differs}
use Rattle.ruled.proofs.Somewhere.{any_places}
use Rattle.ruled.proofs.Splits.{split_first}
use Rattle.ruled.proofs.checks.split.Goals as goal

pub returns : goal.returns
returns c =
    let ns = c.args.marks.rows.now in
    any_from_yields_List (λ i. differs (rows_in ns) (row_at ns i)) _ _ c.any.result c.any.ensures.ran
    (YieldsList-from_range 0 (length ns / 4) (length ns / 4) refl (omega arith)) (λ x b q k. search rules)
    ∙ any_places (differs (rows_in ns)) ns (length ns / 4) 0 (omega arith)
    ∙ sym (split_first ns)
