use native.Mathlib.Omega.{arith}
use lib.Seq.{length-take-le}
use Rattle.paper.specs.Rows.{table}
use Rattle.row_checks.proofs.Judged.{plain_bounded}
use Rattle.predict.proofs.chosen.Goals as goal

pub walked-w-requires : goal.walked-w-requires
walked-w-requires c =
    let t = c.args.lent.table in
    let b = plain_bounded (table t.prod0 t.k t.rows.now) c.args.lent.sound.checked in
    omega (arith, length-take-le t.k c.args.tokens.now c.requires, b.k)
