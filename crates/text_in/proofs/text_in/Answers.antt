-- `text_in::text_in` meets its contract. Each refusal is the definition's; nothing is written before the last of them
-- is ruled out. Assumes nothing.
use Rattle.std.proofs.Common.{◌≡◌, ◌∙◌, sym, rules}
use borrow.Author.Tests.{not-true, not-false}
use Rattle.std.proofs.lemmas.Result.{err_from_is_err_and}
use Rattle.paper.specs.declared.Refusal.TheVariants.{Length, Range, Order, Text}
use Rattle.rows.proofs.Signed.{same}
use Rattle.rows.proofs.Fits.{head_coded}
use Rattle.text_lines.proofs.Small.{head_from_at}
use Rattle.text_in.proofs.In.{refused, in_room, in_head, in_bad, in_many, in_range_head, in_range_rows, in_order, in_table, ready}
use Rattle.text_in.proofs.text_in.Goals as goal
use Rattle.text_in.proofs.text_in.Goals.{then-not-head_fits-via-then-not-head_fits, then-not-head_fits-via-else-not-head_fits+then-not-tally}

pub returns-then-out-lt16384 : goal.returns-then-out-lt16384
returns-then-out-lt16384 c = refused Length (in_room _ _ c.if-out-lt16384.true)

pub returns-in_err-head : goal.returns-in_err-head
returns-in_err-head c =
    let p = err_from_is_err_and c.from_residual.result c.from_residual.ensures.1 in
    let none = sym c.head_from.ensures.value ∙ c.in_err-head.ensures.ok_part in
    let v = rw c.in_err-head.ensures.ok_part at c.in_err-head.ensures.value in
    let e : c.in_err-head.field-0.0 ≡ Text 0 = cc in
    rw (p.1, p.2, e) (refused (Text 0) (in_head _ _ c.if-out-lt16384.false none))

pub returns-in_err-tally : goal.returns-in_err-tally
returns-in_err-tally c =
    let p = err_from_is_err_and c.from_residual-in_err-tally.result c.from_residual-in_err-tally.ensures.1 in
    let head = sym c.head_from.ensures.value ∙ c.in_ok-head.ensures.ok_part in
    rw (p.1, p.2) (refused _ (in_bad _ _ c.if-out-lt16384.false _ head _ _ (sym c.in_err-tally.ensures)))

pub returns-then-tally-gt4096 : goal.returns-then-tally-gt4096
returns-then-tally-gt4096 c =
    let head = sym c.head_from.ensures.value ∙ c.in_ok-head.ensures.ok_part in
    refused Length
    (in_many _ _ c.if-out-lt16384.false _ head _ (sym c.in_ok-tally.ensures) c.if-tally-gt4096.true)

pub returns-then-not-head_fits : goal.returns-then-not-head_fits
returns-then-not-head_fits c =
    let wide = c.if-out-lt16384.false in
    let head = sym c.head_from.ensures.value ∙ c.in_ok-head.ensures.ok_part in
    let all = sym c.in_ok-tally.ensures in
    let few = c.if-tally-gt4096.false in
    let coded = rw (same c.in_ok-head.head.prod0 (search rules)) at c.coded.ensures.is in
    let fits = c.head_fits.ensures ∙ head_coded _ c.in_ok-head.head.k _ coded in
    elim c.then-not-head_fits.branch [
      | then-not-head_fits-via-then-not-head_fits w ↦
          refused Range (in_range_head _ _ wide _ head _ all few (sym fits ∙ w.if-not-head_fits.true))
      | then-not-head_fits-via-else-not-head_fits+then-not-tally w ↦
          refused Range (in_range_rows _ _ wide _ head _ all few (not-true _ w.if-not-tally.true))
    ]

pub returns-then-not-tally-2 : goal.returns-then-not-tally-2
returns-then-not-tally-2 c =
    let wide = c.if-out-lt16384.false in
    let head = sym c.head_from.ensures.value ∙ c.in_ok-head.ensures.ok_part in
    let all = sym c.in_ok-tally.ensures in
    let few = c.if-tally-gt4096.false in
    let coded = rw (same c.in_ok-head.head.prod0 (search rules)) at c.coded.ensures.is in
    let fits = c.head_fits.ensures ∙ head_coded _ c.in_ok-head.head.k _ coded in
    let ranged = sym fits ∙ c.if-not-head_fits.false in
    refused Order (in_order _ _ wide _ head _ all few ranged (not-false _ c.if-not-tally.false)
    (not-true _ c.if-not-tally-2.true))

pub fill-requires : goal.fill-requires
fill-requires c =
    let wide = c.if-out-lt16384.false in
    let head = sym c.head_from.ensures.value ∙ c.in_ok-head.ensures.ok_part in
    let all = sym c.in_ok-tally.ensures in
    let few = c.if-tally-gt4096.false in
    let coded = rw (same c.in_ok-head.head.prod0 (search rules)) at c.coded.ensures.is in
    let fits = c.head_fits.ensures ∙ head_coded _ c.in_ok-head.head.k _ coded in
    let ranged = sym fits ∙ c.if-not-head_fits.false in
    ((head_from_at _ _ _ head).inside, ready _ _ wide _ head _ all few ranged (not-false _ c.if-not-tally.false))

pub returns : goal.returns
returns c =
    let wide = c.if-out-lt16384.false in
    let head = sym c.head_from.ensures.value ∙ c.in_ok-head.ensures.ok_part in
    let all = sym c.in_ok-tally.ensures in
    let few = c.if-tally-gt4096.false in
    let coded = rw (same c.in_ok-head.head.prod0 (search rules)) at c.coded.ensures.is in
    let fits = c.head_fits.ensures ∙ head_coded _ c.in_ok-head.head.k _ coded in
    let ranged = sym fits ∙ c.if-not-head_fits.false in
    rw (same c.in_ok-head.head.prod0 (search rules)) (in_table _ _ wide _ head _ all few ranged
    (not-false _ c.if-not-tally.false) (not-false _ c.if-not-tally-2.false) _ _ c.fill.ensures)
