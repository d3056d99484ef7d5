-- `report_lines::put_line` meets its contract. Three writings, each from where the one before ends. Assumes nothing.
use Rattle.std.proofs.Common.{arith}
use Rattle.text_out.proofs.Written.{adds_on, adds_as}
use Rattle.report_lines.proofs.Parts.{line_parts}
use Rattle.report_lines.proofs.put_line.Goals as goal

pub returns : goal.returns
returns c =
    let two = adds_on c.put_field.ensures (omega arith) c.put_field-2.ensures in
    let three = adds_on two (omega arith) c.put_word.ensures in
    adds_as three (omega arith) (line_parts _ _ _)
