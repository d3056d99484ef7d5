use mathlib.Core.Path.{◌≡◌}
use Prim.Native.Nat.{◌-◌, ◌*◌}
use lib.ListN.{length, drop}
use Rattle.paper.specs.Rows.{table}
use Rattle.predict.specs.Checked.{checked}
use Rattle.batch.proofs.Windows.{once_done}
use Rattle.batch.proofs.fill.Given as goal

abbrev pub invariant-loop-i : goal.invariant-loop-i
invariant-loop-i l =
    (l.at ≡ l.i * l.lent.table.k)
    × (length l.answers ≡ length l.initial.answers)
    × (once_done (checked l.mode (table l.lent.table.prod0 l.lent.table.k l.lent.table.rows.now) l.stream) l.lent.table.k l.initial.answers l.tokens 0 l.count
    ≡ once_done (checked l.mode (table l.lent.table.prod0 l.lent.table.k l.lent.table.rows.now) l.stream) l.lent.table.k l.answers (drop l.at l.tokens) l.i (l.count - l.i))
