use mathlib.Core.Path.{◌∙◌}
use Rattle.rows.proofs.Signed.{back}
use Rattle.rows.proofs.numbers.put_row.Goals as goal

pub returns : goal.returns
returns c =
    let a = back _ c.number_of-a.type_inv ∙ c.number_of-a.ensures in
    let b = back _ c.number_of-b.type_inv ∙ c.number_of-b.ensures in
    let d = back _ c.number_of-c.type_inv ∙ c.number_of-c.ensures in
    let e = back _ c.signed.type_inv ∙ c.signed.ensures in
    c.put_four.ensures ∙ rw (a, b, d, e)
