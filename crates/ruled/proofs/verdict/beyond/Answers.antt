-- The verdict is that of 4, then 5, then 6.
use mathlib.Core.Path.{refl, sym, ◌∙◌}
use Rattle.paper.specs.declared.Refusal.TheVariants.{Shape, Loose, Split}
use Rattle.row_checks.proofs.Judged.{refuses, next_check, taken, next_passes, done}
use Rattle.counts.proofs.Arrays.{clear}
use Rattle.ruled.proofs.verdict.beyond.Goals as goal

pub returns-then-shape : goal.returns-then-shape
returns-then-shape c = refuses Shape refl refl (sym c.shape.ensures ∙ c.if-shape.true)

pub mark-requires : goal.mark-requires
mark-requires c = clear

pub returns-then-loose : goal.returns-then-loose
returns-then-loose c =
    next_check (sym c.shape.ensures ∙ c.if-shape.false)
    (refuses Loose refl refl (sym c.loose.ensures ∙ c.if-loose.true))

pub returns-then-split : goal.returns-then-split
returns-then-split c =
    next_check (sym c.shape.ensures ∙ c.if-shape.false)
    (next_check (sym c.loose.ensures ∙ c.if-loose.false)
    (refuses Split refl refl (sym c.split.ensures ∙ c.if-split.true)))

pub returns : goal.returns
returns c =
    taken tt (next_passes (sym c.shape.ensures ∙ c.if-shape.false)
    (next_passes (sym c.loose.ensures ∙ c.if-loose.false)
    (next_passes (sym c.split.ensures ∙ c.if-split.false) done)))
