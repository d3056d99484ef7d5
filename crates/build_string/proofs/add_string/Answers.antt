use mathlib.Core.Path.{refl, subst, sym}
use Rattle.paper.specs.Build.{Standing}
use Rattle.trees.proofs.Tree.{Tree}
use Rattle.build_string.specs.Steps.{standing}
use Rattle.build_string.proofs.Walked.{walk_tree}
use Rattle.build_string.proofs.add_string.Goals as goal

pub mark-requires : goal.mark-requires
mark-requires c =
    let e = c.in_ok-step.ensures in (
      subst (λ (v : Standing). Tree v.rows) (sym e.is)
          (walk_tree (standing c.args.rows.now 0) c.args.string.now refl c.requires),
      e.leads,
    )
