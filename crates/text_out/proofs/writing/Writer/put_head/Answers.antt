-- `text_out::writing::Writer::put_head` meets its contract. Four writings, each from where the one before it ends.
-- Assumes nothing.
use Rattle.std.proofs.Common.{arith}
use Rattle.paper.specs.Rows.{accepting, signed}
use Rattle.rows.proofs.Signed.{same}
use Rattle.text_out.proofs.Written.{adds_on, adds_as, head_parts}
use Rattle.text_out.proofs.writing.Writer.put_head.Goals as goal

pub returns : goal.returns
returns c =
    let two = adds_on c.put_word.ensures (omega arith) (rw (same c.args.prod0 c.ranges.prod0) at c.put_production.ensures) in
    let three = adds_on two (omega arith) c.put_field.ensures in
    let four = adds_on three (omega arith) c.put_word-2.ensures in
    adds_as four (omega arith) (head_parts (signed (accepting c.args.prod0)) c.args.k)
