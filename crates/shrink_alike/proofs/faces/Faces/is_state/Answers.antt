use mathlib.Core.Path.{ap, ◌∙◌}
use mathlib.Core.Bool.{not}
use Prim.Native.Nat.{ℕ}
use lib.Dec.{eqb}
use borrow.Author.Tests.{eq-eqb}
use Rattle.shrink_alike.proofs.Entered.{tells_zero, tells_entered}
use Rattle.ruled.proofs.Hanging.{some_row}
use Rattle.shrink_alike.proofs.faces.Faces.is_state.Goals as goal

pub returns-then-s-eq0 : goal.returns-then-s-eq0
returns-then-s-eq0 c =
    rw (eq-eqb c.args.s 0 c.if-s-eq0.true) (tells_zero c.args.self.now.rows.numbers.now c.args.s c.if-s-eq0.true)

pub returns-else-s-eq0 : goal.returns-else-s-eq0
returns-else-s-eq0 c =
    let f = c.args.self.now in
    rw (c.is_some.ensures ∙ some_row c.first_row.result ∙ ap (λ (n : ℕ). not (eqb n 0)) c.first_row.ensures)
    (tells_entered f.rows.numbers.now f.into.now f.indexed.1 c.args.s c.requires c.if-s-eq0.false)
