use borrow.Author.Tests.{eq-eqb, ne_eqb}
use Rattle.paper.specs.Checks.{row_slice}
use Rattle.row_checks.proofs.row_slice.Goals as goal

pub returns-then-n-ne0 : goal.returns-then-n-ne0
unfolding row_slice
returns-then-n-ne0 c = simp (ne_eqb _ _ c.if-n-ne0.true)

pub returns : goal.returns
unfolding row_slice
returns c = simp (eq-eqb _ _ c.if-n-ne0.false)
