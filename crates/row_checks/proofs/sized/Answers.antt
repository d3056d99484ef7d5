use mathlib.Core.Path.{sym, ◌∙◌}
use Rattle.row_checks.proofs.Judged.{measured}
use Rattle.row_checks.proofs.sized.Goals as goal

pub invariant_of-result : goal.invariant_of-result
invariant_of-result c = record { whole = measured c.args.lent.rows.now (sym c.row_slice.ensures ∙ c.if-row_slice.false) }
