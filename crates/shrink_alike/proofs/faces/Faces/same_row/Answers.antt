use borrow.Author.Tests.{eq-eqb, ne_eqb}
use Rattle.shrink_alike.specs.Faces.{same_row}
use Rattle.shrink_alike.proofs.faces.Faces.same_row.Goals as goal

pub returns-then-terminal : goal.returns-then-terminal
unfolding same_row
returns-then-terminal c =
    rw (
      ← c.terminal.ensures.0,
      ← c.terminal-2.ensures.0,
      eq-eqb _ _ c.if-terminal.true,
      ← c.to_mark.ensures.0,
      ← c.to_mark-then-terminal.ensures.0,
    )

pub returns-else-terminal : goal.returns-else-terminal
unfolding same_row
returns-else-terminal c = rw (← c.terminal.ensures.0, ← c.terminal-2.ensures.0, ne_eqb _ _ c.if-terminal.false)
