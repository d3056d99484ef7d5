use Rattle.shrink_rows.proofs.Emitting.{Emitting}
use Rattle.shrink_rows.proofs.emit.Numbered.emit_state.Given as goal

abbrev pub invariant-loop-i : goal.invariant-loop-i
invariant-loop-i l =
    Emitting l.self.faces.now.rows.numbers.now l.self.class.now l.self.number.now l.h l.f l.initial.out l.out
    l.at l.o l.i
