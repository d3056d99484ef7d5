use mathlib.Core.List.{List}
use Prim.Native.Nat.{ℕ, ◌+◌, ◌*◌}
use native.Mathlib.Omega.{arith}
use lib.ListN.{get_or}
use lib.IntN.{ℤ, pos}
use Rattle.rows.proofs.Signed.{plain_cast, plain_read}
use Rattle.rows.proofs.Columns.{column_fits}
use Rattle.rows.proofs.Rows.column.Goals as goal

abbrev read : List ℤ → ℕ → ℕ → ℤ
read ns i c = get_or ns (i * 4 + c) (pos 0)

pub overflow_cast-result : goal.overflow_cast-result
overflow_cast-result c =
    let a = c.args in
    let h = column_fits a.self.numbers.now a.self.passed.fits a.i a.c c.requires.0 c.requires.1 in
    plain_cast (read a.self.numbers.now a.i a.c) h c.result-1.given

pub returns : goal.returns
returns c =
    let a = c.args in
    let h = column_fits a.self.numbers.now a.self.passed.fits a.i a.c c.requires.0 c.requires.1 in
    let e = plain_read (read a.self.numbers.now a.i a.c) h c.result-1.given in
    (e, omega (arith, e, h))
