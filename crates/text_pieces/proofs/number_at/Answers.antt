-- `text_pieces::number_at` meets its contract. By the tests of the form one after another. Assumes nothing.
use Rattle.std.proofs.lemmas.List.{take_rest}
use Rattle.text_pieces.proofs.Forms.{form_none, form_long, form_zero, form_one, form_more, number_not, number_so}
use Rattle.text_pieces.proofs.number_at.Goals as goal
use Rattle.text_pieces.proofs.number_at.Goals.{then-count-lt1-via-then-count-lt1, then-count-lt1-via-else-count-lt1+then-count-gt-MOST, else-count-ne1-via-then-count-ne1+else-rest-eq48, else-count-ne1-via-else-count-ne1}

pub returns-then-count-lt1 : goal.returns-then-count-lt1
returns-then-count-lt1 c =
    let a = c.args in
    let made = rw (take_rest a.line.now a.at) at c.digits-count.ensures in
    number_not a.line.now a.at (elim c.then-count-lt1.branch [
      | then-count-lt1-via-then-count-lt1 w ↦ form_none _ _ _ made w.if-count-lt1.true
      | then-count-lt1-via-else-count-lt1+then-count-gt-MOST w ↦ form_long _ _ _ made w.if-count-gt-MOST.true
    ])

pub returns-then-rest-eq48 : goal.returns-then-rest-eq48
returns-then-rest-eq48 c =
    let a = c.args in
    let made = rw (take_rest a.line.now a.at) at c.digits-count.ensures in
    let zero = rw (take_rest a.line.now a.at) at c.if-rest-eq48.true in
    number_not a.line.now a.at
    (form_zero _ _ _ made c.if-count-lt1.false c.if-count-gt-MOST.false c.if-count-ne1.true zero)

pub returns : goal.returns
returns c =
    let a = c.args in
    let few = c.if-count-gt-MOST.false in
    let made = rw (take_rest a.line.now a.at) at c.digits-count.ensures in
    number_so a.line.now a.at _ _ made few (elim c.else-count-ne1.branch [
      | else-count-ne1-via-then-count-ne1+else-rest-eq48 w ↦ form_more _ _ _ made c.if-count-lt1.false few
          w.if-count-ne1.true (rw (take_rest a.line.now a.at) at w.if-rest-eq48.false)
      | else-count-ne1-via-else-count-ne1 w ↦ form_one _ _ _ made w.if-count-ne1.false
    ])
