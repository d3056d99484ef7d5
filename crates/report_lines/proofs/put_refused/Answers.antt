-- `report_lines::put_refused` meets its contract. Two writings, one after the other. Assumes nothing.
use Rattle.std.proofs.Common.{◌∙◌, sym, arith, rules}
use Rattle.text_out.proofs.Written.{adds_on, adds_as, adds_puts}
use Rattle.report_lines.proofs.Parts.{refused_parts, number_small}
use Rattle.report_lines.proofs.put_refused.Goals as goal

pub put_field-requires : goal.put_field-requires
put_field-requires c =
    let f = c.args.refusal in
    (omega arith, omega (arith, c.number.ensures, number_small f))

pub returns : goal.returns
returns c =
    let all = adds_on c.put_field.ensures (omega arith) c.put_word.ensures in
    let kept = sym (c.put_word.ensures.same ∙ c.put_field.ensures.same) in
    adds_puts (adds_as all (omega arith) (refused_parts c.number.result c.args.refusal c.number.ensures))
    (search (rules, kept))
