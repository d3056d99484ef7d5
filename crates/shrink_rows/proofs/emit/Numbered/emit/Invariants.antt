use mathlib.Core.Path.{◌≡◌}
use mathlib.Core.Option.{none}
use Rattle.merging.specs.Marks.{heads_of, place_among}
use Rattle.shrink_alike.specs.Faces.{coded, mark_in}
use Rattle.shrink_rows.specs.Output.{Written}
use Rattle.shrink_rows.proofs.Emitting.{rows_below}
use Rattle.shrink_rows.proofs.emit.Numbered.emit.Given as goal

abbrev pub invariant-loop-s : goal.invariant-loop-s
invariant-loop-s l =
    (l.m ≡ place_among (heads_of (mark_in l.self.class.now) (coded none l.self.faces.now.rows.numbers.now)) l.s)
    × Written l.initial.out l.out 0 l.o (rows_below l.self.faces.now.rows.numbers.now l.self.class.now l.s)
