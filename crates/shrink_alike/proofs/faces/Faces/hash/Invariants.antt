use mathlib.Core.Path.{◌≡◌}
use Prim.Native.Nat.{◌<◌}
use Rattle.paper.specs.Rows.{rows_in}
use Rattle.paper.specs.Shrink.{rows_of, redirect}
use Rattle.shrink_alike.specs.Faces.{mark_in, hash}
use Rattle.shrink_alike.proofs.Begins.{Standing}
use Rattle.shrink_alike.proofs.Alike.{left}
use Rattle.shrink_alike.proofs.faces.Faces.hash.Given as goal

abbrev pub invariant-loop-i : goal.invariant-loop-i
invariant-loop-i l =
    Standing l.self.rows.numbers.now l.s l.i × (l.r < 65521)
    × (hash l.h (redirect (mark_in l.class) (rows_of (rows_in l.self.rows.numbers.now) l.s))
    ≡ hash l.r (left l.self.rows.numbers.now (mark_in l.class) l.s l.i))
