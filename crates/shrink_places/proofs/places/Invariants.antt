use mathlib.Core.Option.{none}
use Rattle.shrink_alike.specs.Faces.{coded}
use Rattle.shrink_places.proofs.Counting.{Counting}
use Rattle.shrink_places.proofs.places.Given as goal

abbrev pub invariant-loop-s : goal.invariant-loop-s
invariant-loop-s l = Counting (coded none l.faces.rows.numbers.now) l.class l.number l.m l.s
