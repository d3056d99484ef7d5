use mathlib.Core.Path.{sym, ◌∙◌}
use native.Mathlib.Omega.{arith}
use Rattle.shrink_alike.specs.Faces.{mark_in}
use Rattle.shrink_alike.proofs.Begins.{walk_begins, stand_next, leaves_at, leaves_other, leaves_past}
use Rattle.shrink_alike.proofs.Alike.{hash_start, hash_next, hash_end}
use Rattle.shrink_alike.proofs.faces.Faces.hash.Goals as goal

pub loop-i-init : goal.loop-i-init
loop-i-init c =
    let f = c.args.self.now in
    let w = walk_begins f.indexed.0 c.args.s c.requires.0 in
    (w.stands, c.requires.1, hash_start f.rows.numbers.now (mark_in c.args.class.now) c.args.h w)

pub loop-i-preserved : goal.loop-i-preserved
loop-i-preserved c =
    let f = c.args.self.now in
    let w = c.loop-i.invariant in
    let e = leaves_at f.rows.numbers.now c.args.s c.loop-i.i (omega arith)
    (sym c.from.ensures.0 ∙ c.if-from-s.false) in (
      stand_next w.0 f.indexed.0.passed e,
      omega arith,
      w.2 ∙ hash_next f.rows.numbers.now (mark_in c.args.class.now) c.args.s c.loop-i.i c.loop-i.r w.0 e _ _
          c.terminal.ensures.0 c.to_mark.ensures.0,
    )

pub returns-after-loop-i-clause-value : goal.returns-after-loop-i-clause-value
returns-after-loop-i-clause-value c =
    let ns = c.args.self.now.rows.numbers.now in
    let w = c.loop-i.invariant in
    sym (w.2 ∙ hash_end ns (mark_in c.args.class.now) c.args.s c.loop-i.i c.loop-i.r w.0
    (leaves_past ns c.args.s c.loop-i.i (omega arith)))

pub returns-then-from-s-clause-value : goal.returns-then-from-s-clause-value
returns-then-from-s-clause-value c =
    let ns = c.args.self.now.rows.numbers.now in
    let w = c.loop-i.invariant in
    sym (w.2 ∙ hash_end ns (mark_in c.args.class.now) c.args.s c.loop-i.i c.loop-i.r w.0
    (leaves_other ns c.args.s c.loop-i.i (λ q. c.if-from-s.true (c.from.ensures.0 ∙ q))))
