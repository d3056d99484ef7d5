use mathlib.Core.Path.{ap, sym}
use Rattle.rows.specs.Places.{given}
use Rattle.grow.specs.Seen.{rows_of}
use Rattle.unite_taking.specs.Taking.{taking}
use Rattle.unite_taking.proofs.Rowed.{adds, took_as}
use Rattle.unite_taking.proofs.take_row.Goals as goal

pub returns-in-Ok : goal.returns-in-Ok
returns-in-Ok c =
    let a = c.args in
    took_as c.matched.new.growing c.matched.result
    (ap (taking a.mode (rows_of a.growing.now) a.from.0 a.token.0 (given a.production)) (sym c.in-Ok.ensures.1))
    (c.matched.ensures a.from.0 a.token.0)

pub returns-in-Err : goal.returns-in-Err
returns-in-Err c =
    let a = c.args in
    took_as c.grow.new.self c.grow.result
    (ap (taking a.mode (rows_of a.growing.now) a.from.0 a.token.0 (given a.production)) (sym c.in-Err.ensures.new))
    (adds a.growing.now c.grow.new.self c.in-Err.i a.from.0 a.token.0 (given a.production) c.grow.result c.grow.ensures
    a.mode)
