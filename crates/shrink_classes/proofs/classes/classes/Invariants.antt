use Rattle.shrink_alike.specs.Tables.{table_of}
use Rattle.shrink_classes.specs.Classes.{Classed}
use Rattle.shrink_classes.proofs.classes.classes.Given as goal

abbrev pub invariant-loop-s : goal.invariant-loop-s
invariant-loop-s l = Classed l.faces.mode (table_of l.faces) l.slots l.class l.s
