use mathlib.Core.Option.{none}
use mathlib.Core.Path.{refl, sym}
use native.Mathlib.Omega.{arith}
use Rattle.merging.specs.Marks.{heads_of}
use Rattle.merging.proofs.Places.{place_low, place_zero}
use Rattle.shrink_alike.specs.Faces.{coded, mark_in}
use Rattle.shrink_places.proofs.Counting.{heads_rise, head_state}
use Rattle.shrink_rows.proofs.Emitting.{heads_start, heads_room, heads_next, heads_place, heads_skip, place_past, heads_end}
use Rattle.shrink_rows.proofs.emit.Numbered.emit.Goals as goal
use Rattle.shrink_rows.proofs.emit.Numbered.emit.Goals.{then-is_head, else-is_head}

pub loop-s-init : goal.loop-s-init
loop-s-init c =
    let n = c.args.self.now in
    (sym (place_zero _), heads_start n.faces.now.rows.numbers.now n.class.now n.number.now n.named c.args.out.now)

pub emit_state-o-requires : goal.emit_state-o-requires
emit_state-o-requires c =
    let n = c.args.self.now in
    let f = n.faces.now in
    let t = coded none f.rows.numbers.now in
    let w = c.loop-s.invariant in
    let b = c.is_head.ensures.yes c.if-is_head.true in
    let p = place_low (heads_of (mark_in n.class.now) t) (heads_rise t n.class.now) c.loop-s.s in (
      n.named.small c.loop-s.s (head_state t n.class.now c.loop-s.s b),
      omega (arith, w.0, p, f.topped.few),
      heads_room f.rows.numbers.now n.class.now n.number.now n.named n.placed c.loop-s.s c.loop-s.m b w.0 c.args.out.now
          c.loop-s.out c.loop-s.o w.1 f.indexed.0.few,
      omega (arith, w.1.sized, c.requires),
    )

pub overflow_add-m : goal.overflow_add-m
overflow_add-m c =
    let n = c.args.self.now in
    let t = coded none n.faces.now.rows.numbers.now in
    let p = place_low (heads_of (mark_in n.class.now) t) (heads_rise t n.class.now) c.loop-s.s in
    omega (arith, c.loop-s.invariant.0, p, n.faces.now.topped.few)

pub loop-s-preserved : goal.loop-s-preserved
loop-s-preserved c =
    let n = c.args.self.now in
    let ns = n.faces.now.rows.numbers.now in
    let s = c.loop-s.s in
    let m = c.loop-s.m in
    let i = c.loop-s.invariant in
    elim c.if-is_head.branch [
      | then-is_head w ↦
          let b = c.is_head.ensures.yes w.if-is_head.true in
          rw (w.m-is, w.out-is, w.o-is) (
            heads_place ns n.class.now n.number.now n.named n.placed s m b i.0,
            heads_next ns n.class.now n.number.now n.named n.placed s m b i.0 c.args.out.now c.loop-s.out _ c.loop-s.o
                w.emit_state-o.result _ i.1 refl w.emit_state-o.ensures,
          )
      | else-is_head w ↦
          let off = c.is_head.ensures.no w.if-is_head.false in
          rw (w.m-is, w.out-is, w.o-is) (
            place_past ns n.class.now n.number.now n.named s off m i.0,
            heads_skip ns n.class.now n.number.now n.named s off c.args.out.now c.loop-s.out c.loop-s.o i.1,
          )
    ]

pub returns : goal.returns
returns c =
    let n = c.args.self.now in
    let f = n.faces.now in
    heads_end f.rows.numbers.now n.class.now n.number.now n.named f.top f.topped c.args.out.now c.loop-s.out c.loop-s.o
    c.loop-s.s (omega arith) c.loop-s.invariant.1
