use mathlib.Core.Path.{sym, ◌∙◌}
use native.Mathlib.Omega.{arith}
use Rattle.shrink_alike.proofs.Begins.{walk_begins, stand_next, leaves_at, leaves_other, leaves_past}
use Rattle.shrink_rows.proofs.Emitting.{emit_start, emit_room, emit_next, emit_end}
use Rattle.shrink_rows.proofs.emit.Numbered.emit_state.Goals as goal

pub loop-i-init : goal.loop-i-init
loop-i-init c =
    let n = c.args.self.now in
    let f = n.faces.now in
    emit_start f.rows.numbers.now n.class.now n.number.now c.args.h c.args.f c.args.out.now c.args.at _
    (walk_begins f.indexed.0 c.args.h c.requires.0)

pub emit_row-requires : goal.emit_row-requires
emit_row-requires c =
    let n = c.args.self.now in
    let f = n.faces.now in
    let e = leaves_at f.rows.numbers.now c.args.h c.loop-i.i (omega arith)
    (sym c.from.ensures.0 ∙ c.if-from-h.false) in
    let r = emit_room f.rows.numbers.now n.class.now n.number.now c.args.h c.args.f c.args.out.now c.loop-i.out c.args.at
    c.loop-i.o c.loop-i.i c.loop-i.invariant e f.whole in (
      c.requires.1,
      omega arith,
      omega (arith, r, c.requires.2),
      omega (arith, r, c.requires.2, c.requires.3, c.loop-i.invariant.written.sized),
    )

pub loop-i-preserved : goal.loop-i-preserved
loop-i-preserved c =
    let n = c.args.self.now in
    let f = n.faces.now in
    let e = leaves_at f.rows.numbers.now c.args.h c.loop-i.i (omega arith)
    (sym c.from.ensures.0 ∙ c.if-from-h.false) in
    emit_next f.rows.numbers.now n.class.now n.number.now c.args.h c.args.f c.args.out.now c.loop-i.out c.args.at
    c.loop-i.o c.loop-i.i c.loop-i.invariant e f.whole _
    (stand_next c.loop-i.invariant.stands f.indexed.0.passed e) c.emit_row.ensures

pub returns-after-loop-i : goal.returns-after-loop-i
returns-after-loop-i c =
    let n = c.args.self.now in
    let ns = n.faces.now.rows.numbers.now in
    emit_end ns n.class.now n.number.now c.args.h c.args.f c.args.out.now c.loop-i.out c.args.at
    c.loop-i.o c.loop-i.i c.loop-i.invariant (leaves_past ns c.args.h c.loop-i.i (omega arith))

pub returns-then-from-h : goal.returns-then-from-h
returns-then-from-h c =
    let n = c.args.self.now in
    let ns = n.faces.now.rows.numbers.now in
    emit_end ns n.class.now n.number.now c.args.h c.args.f c.args.out.now c.loop-i.out c.args.at
    c.loop-i.o c.loop-i.i c.loop-i.invariant
    (leaves_other ns c.args.h c.loop-i.i (λ q. c.if-from-h.true (c.from.ensures.0 ∙ q)))
