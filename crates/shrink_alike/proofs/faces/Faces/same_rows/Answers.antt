use mathlib.Core.Path.{◌≡◌, sym, ◌∙◌}
use mathlib.Core.Bool.{false}
use native.Mathlib.Omega.{arith}
use Rattle.shrink_alike.specs.Index.{leaves}
use Rattle.shrink_alike.specs.Faces.{mark_in}
use Rattle.shrink_alike.proofs.Begins.{walk_begins, stand_next, leaves_at, leaves_other, leaves_past}
use Rattle.shrink_alike.proofs.Alike.{alike_start, alike_next, alike_differ, alike_short, alike_end}
use Rattle.shrink_alike.proofs.faces.Faces.same_rows.Goals as goal
use Rattle.shrink_alike.proofs.faces.Faces.same_rows.Goals.{
  then-not-leaves-via-then-not-leaves,
  then-not-leaves-via-else-not-leaves+then-not-same_row,
  else-loop-i-test,
  then-loop-i-test+then-from-a,
}

pub loop-i-init : goal.loop-i-init
loop-i-init c =
    let f = c.args.self.now in
    let v = walk_begins f.indexed.0 c.args.a c.requires.0 in
    let w = walk_begins f.indexed.0 c.args.b c.requires.1 in
    (v.stands, w.stands, alike_start f.rows.numbers.now (mark_in c.args.class.now) v w)

pub returns-then-not-leaves : goal.returns-then-not-leaves
returns-then-not-leaves c =
    let ns = c.args.self.now.rows.numbers.now in
    let w = c.loop-i.invariant in
    let e = leaves_at ns c.args.a c.loop-i.i (omega arith) (sym c.from.ensures.0 ∙ c.if-from-a.false) in
    elim c.then-not-leaves.branch [
      | then-not-leaves-via-then-not-leaves u ↦
          alike_short ns (mark_in c.args.class.now) c.args.a c.args.b c.loop-i.i c.loop-i.j w.0 w.1 e
          (sym c.leaves.ensures ∙ u.if-not-leaves.true)
          ∙ sym w.2
      | then-not-leaves-via-else-not-leaves+then-not-same_row u ↦
          alike_differ ns (mark_in c.args.class.now) c.args.a c.args.b c.loop-i.i c.loop-i.j w.0 w.1 e
          (sym c.leaves.ensures ∙ u.if-not-leaves.false) (sym u.same_row.ensures ∙ u.if-not-same_row.true)
          ∙ sym w.2
    ]

pub loop-i-preserved : goal.loop-i-preserved
loop-i-preserved c =
    let f = c.args.self.now in
    let w = c.loop-i.invariant in
    let d = leaves_at f.rows.numbers.now c.args.a c.loop-i.i (omega arith) (sym c.from.ensures.0 ∙ c.if-from-a.false) in
    let e = sym c.leaves.ensures ∙ c.if-not-leaves.false in (
      stand_next w.0 f.indexed.0.passed d,
      stand_next w.1 f.indexed.0.passed e,
      w.2 ∙ alike_next f.rows.numbers.now (mark_in c.args.class.now) c.args.a c.args.b c.loop-i.i c.loop-i.j w.0 w.1 d e
          (sym c.same_row.ensures ∙ c.if-not-same_row.false),
    )

pub returns : goal.returns
returns c =
    let ns = c.args.self.now.rows.numbers.now in
    let w = c.loop-i.invariant in
    let gone : leaves ns c.args.a c.loop-i.i ≡ false = elim c.loop-i-test.branch [
      | else-loop-i-test u ↦ leaves_past ns c.args.a c.loop-i.i (omega arith)
      | then-loop-i-test+then-from-a u ↦
          leaves_other ns c.args.a c.loop-i.i (λ q. u.if-from-a.true (u.from.ensures.0 ∙ q))
    ] in
    alike_end ns (mark_in c.args.class.now) c.args.a c.args.b c.loop-i.i c.loop-i.j w.0 w.1 gone c.leaves-2.result
    c.leaves-2.ensures
    ∙ sym w.2
