-- `report_lines::put_lines` meets its contract. Three lines, each from where the one before it ends. Assumes nothing.
use Rattle.std.proofs.Common.{◌∙◌, sym, arith, rules}
use Rattle.text_out.proofs.Written.{adds_on, adds_as, adds_puts}
use Rattle.report_lines.proofs.Parts.{three_parts}
use Rattle.report_lines.proofs.put_lines.Goals as goal

pub returns : goal.returns
returns c =
    let two = adds_on c.put_line.ensures (omega arith) c.put_line-2.ensures in
    let all = adds_on two (omega arith) c.put_line-3.ensures in
    let kept = sym (c.put_line-3.ensures.same ∙ c.put_line-2.ensures.same ∙ c.put_line.ensures.same) in
    adds_puts (adds_as all (omega arith) (three_parts _ _ _)) (search (rules, kept))
