use mathlib.Core.Option.{none}
use native.Mathlib.Omega.{arith}
use Rattle.merging.specs.Marks.{heads_of}
use Rattle.merging.proofs.Places.{place_low}
use Rattle.shrink_alike.specs.Faces.{coded, mark_in}
use Rattle.shrink_places.proofs.Counting.{count_start, count_skip, count_more, count_end, heads_rise}
use Rattle.shrink_places.proofs.places.Goals as goal
use Rattle.shrink_places.proofs.places.Goals.{then-is_state, else-is_state}

pub loop-s-init : goal.loop-s-init
loop-s-init c =
    count_start (coded none c.args.faces.now.rows.numbers.now) c.args.class.now c.args.number.now c.requires.1

pub place-m-requires : goal.place-m-requires
place-m-requires c =
    let f = c.args.faces.now in
    let t = coded none f.rows.numbers.now in
    let p = place_low (heads_of (mark_in c.args.class.now) t) (heads_rise t c.args.class.now) c.loop-s.s in (
      omega (arith, f.topped.few),
      c.requires.0.small c.loop-s.s (c.is_state.ensures.yes c.if-is_state.true),
      omega (arith, c.loop-s.invariant.count, p, f.topped.few),
    )

pub loop-s-preserved : goal.loop-s-preserved
loop-s-preserved c =
    let f = c.args.faces.now in
    let t = coded none f.rows.numbers.now in
    elim c.if-is_state.branch [
      | then-is_state w ↦
          rw (w.number-is, w.m-is) (count_more t c.args.class.now c.requires.0 f.top f.topped c.loop-s.number _
          c.loop-s.m w.place-m.result c.loop-s.s c.loop-s.invariant
          (c.is_state.ensures.yes w.if-is_state.true) w.place-m.ensures)
      | else-is_state w ↦
          rw (w.number-is, w.m-is) (count_skip t c.args.class.now c.loop-s.number c.loop-s.m c.loop-s.s
          c.loop-s.invariant
          (c.is_state.ensures.no w.if-is_state.false))
    ]

pub returns : goal.returns
returns c =
    let f = c.args.faces.now in
    count_end (coded none f.rows.numbers.now) c.args.class.now f.top f.topped c.loop-s.number c.loop-s.m c.loop-s.s
    c.loop-s.invariant (omega arith)
