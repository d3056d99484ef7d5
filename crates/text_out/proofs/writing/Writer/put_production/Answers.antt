-- `text_out::writing::Writer::put_production` meets its contract. The code 0 is -1, any other one more than the number.
-- Assumes nothing.
use Rattle.std.proofs.Common.{◌∙◌, sym, arith}
use Rattle.rows.proofs.Signed.{same}
use Rattle.text_out.proofs.Written.{adds_as, decimal_none, decimal_some}
use Rattle.text_out.proofs.writing.Writer.put_production.Goals as goal

pub returns-then-code-eq0 : goal.returns-then-code-eq0
returns-then-code-eq0 c =
    let p = c.args.production in
    let e = rw (same p c.ranges.production) at c.coded-code.ensures.is in
    adds_as c.put_word.ensures (omega arith) (sym (decimal_none p (sym e ∙ c.if-code-eq0.true)))

pub returns-else-code-eq0 : goal.returns-else-code-eq0
returns-else-code-eq0 c =
    let p = c.args.production in
    let e = rw (same p c.ranges.production) at c.coded-code.ensures.is in
    rw (decimal_some p c.coded-code.result e c.if-code-eq0.false) c.put_number.ensures
