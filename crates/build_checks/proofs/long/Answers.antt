use mathlib.Core.Path.{◌∙◌}
use borrow.Author.Rules.{rules}
use Rattle.std.proofs.lemmas.Iterator.{YieldsList-from_slice}
use Rattle.std.proofs.lemmas.Iterator.Search.{any_from_yields_List}
use Rattle.build_checks.proofs.Totals.{over, any_as}
use Rattle.build_checks.proofs.long.Goals as goal

pub returns : goal.returns
returns c =
    any_from_yields_List over _ _ c.any.result c.any.ensures.ran
    (YieldsList-from_slice c.args.lengths.now c.iter.ensures.rest) (λ x b q k. search rules)
    ∙ any_as over c.args.lengths.now
