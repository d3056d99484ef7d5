-- `text_out::writing::Writer::put_row` meets its contract. Six writings, each from where the one before it ends.
-- Assumes nothing.
use Rattle.std.proofs.Common.{arith}
use Rattle.paper.specs.Rows.{accepting, signed}
use Rattle.rows.proofs.Signed.{same}
use Rattle.text_laws.specs.Written.{row_text}
use Rattle.text_out.proofs.Written.{adds_on, adds_as, row_parts}
use Rattle.text_out.proofs.writing.Writer.put_row.Goals as goal

pub returns : goal.returns
unfolding row_text
returns c =
    let a = c.args in
    let two = adds_on c.put_field.ensures (omega arith) c.put_field-2.ensures in
    let three = adds_on two (omega arith) c.put_field-3.ensures in
    let four = adds_on three (omega arith) c.put_word.ensures in
    let last = rw (same a.production c.ranges.production) at c.put_production.ensures in
    let five = adds_on four (omega arith) last in
    let six = adds_on five (omega arith) c.put_word-2.ensures in
    adds_as six (omega arith) (row_parts a.from a.terminal a.to (signed (accepting a.production)))
