use mathlib.Core.Path.{◌≡◌}
use Rattle.paper.specs.Shrink.{same_rows}
use Rattle.shrink_alike.specs.Faces.{mark_in, rows_alike}
use Rattle.shrink_alike.proofs.Begins.{Standing}
use Rattle.shrink_alike.proofs.Alike.{left}
use Rattle.shrink_alike.proofs.faces.Faces.same_rows.Given as goal

abbrev pub invariant-loop-i : goal.invariant-loop-i
invariant-loop-i l =
    Standing l.self.rows.numbers.now l.a l.i × Standing l.self.rows.numbers.now l.b l.j
    × (rows_alike l.self.rows.numbers.now (mark_in l.class) l.a l.b
    ≡ same_rows (left l.self.rows.numbers.now (mark_in l.class) l.a l.i)
    (left l.self.rows.numbers.now (mark_in l.class) l.b l.j))
