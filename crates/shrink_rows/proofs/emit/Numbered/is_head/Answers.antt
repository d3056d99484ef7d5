use mathlib.Core.Option.{none}
use Rattle.shrink_alike.specs.Faces.{coded}
use Rattle.shrink_places.proofs.Counting.{no_head, head_tells}
use Rattle.shrink_rows.proofs.emit.Numbered.is_head.Goals as goal

pub returns-then-is_state : goal.returns-then-is_state
returns-then-is_state c =
    let n = c.args.self.now in
    head_tells (coded none n.faces.now.rows.numbers.now) n.class.now n.number.now n.placed c.args.s c.args.m
    (c.is_state.ensures.yes c.if-is_state.true) c.requires.1

pub returns-else-is_state : goal.returns-else-is_state
returns-else-is_state c =
    let n = c.args.self.now in
    rw c.if-is_state.false (no_head (coded none n.faces.now.rows.numbers.now) n.class.now c.args.s
    (c.is_state.ensures.no c.if-is_state.false))
