-- `text_out::writing::Writer::put_field` meets its contract. Assumes nothing.
use Rattle.std.proofs.Common.{arith}
use Rattle.text_out.proofs.Written.{adds_on}
use Rattle.text_out.proofs.writing.Writer.put_field.Goals as goal

pub returns : goal.returns
returns c = adds_on c.put_word.ensures (omega arith) c.put_number.ensures
