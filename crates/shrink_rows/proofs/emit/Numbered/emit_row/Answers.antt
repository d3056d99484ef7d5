use mathlib.Core.Path.{refl, ap}
use Prim.Native.Nat.{ℕ}
use native.Mathlib.Omega.{arith}
use lib.ListN.{get_or}
use Rattle.paper.specs.Rows.{rows_in}
use Rattle.rows.specs.Places.{row_at}
use Rattle.merging.proofs.States.{to_state}
use Rattle.shrink_rows.specs.Output.{new_row}
use Rattle.shrink_rows.proofs.Emitting.{row_in}
use Rattle.shrink_rows.proofs.Writing.{written_row}
use Rattle.shrink_rows.proofs.emit.Numbered.emit_row.Goals as goal

pub bounds-self-to_mark : goal.bounds-self-to_mark
bounds-self-to_mark c =
    let ns = c.args.self.now.faces.now.rows.numbers.now in
    omega (
      arith,
      c.to_mark.ensures.0,
      c.args.self.now.named.small (row_at ns c.args.i).to (to_state (rows_in ns) (row_at ns c.args.i)
          (row_in ns c.args.i c.requires.1)),
    )

pub put_row-requires : goal.put_row-requires
put_row-requires c = (
  c.requires.3,
  c.requires.0,
  c.terminal.ensures.1,
  omega (arith, c.args.self.now.placed.sized),
)

pub returns : goal.returns
returns c =
    let n = c.args.self.now in
    let r = new_row n.faces.now.rows.numbers.now n.class.now n.number.now c.args.f c.args.i in
    written_row c.args.out.now _ c.args.o r
    _ _ _ _ c.requires.3 refl c.terminal.ensures.0
    (ap (λ (m : ℕ). get_or n.number.now m 0) c.to_mark.ensures.0)
    c.production.ensures c.put_row.ensures
