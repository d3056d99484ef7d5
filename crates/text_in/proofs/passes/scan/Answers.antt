-- `text_in::passes::scan` meets its contract. A row more, a bad line, and the end. Assumes nothing.
use Rattle.std.proofs.Common.{◌≡◌, ◌∙◌, ◌+◌, sym, ap, arith}
use Rattle.text_in.specs.declared.passes.Tally.{Tally}
use Rattle.text_in.proofs.Tallied.{tally_row, tally_bad, tally_end, tallied_rows}
use Rattle.text_in.proofs.passes.scan.Goals as goal

pub loop-row-preserved : goal.loop-row-preserved
loop-row-preserved c =
    let p = c.loop-row in
    let t = c.args.text.now in
    let next = tally_row t p.place c.in-Some.row (omega (arith, c.in-Some.ensures.within)) (sym c.row_from.ensures.value ∙ c.in-Some.is) p.tally in
    let more : c.tallied-tally.result.rows ≡ p.tally.rows + 1 =
    ap (λ (s : Tally). s.rows) c.tallied-tally.ensures ∙ tallied_rows p.tally _ in
    record {
      inside = omega (arith, c.in-Some.ensures.within);
      few = omega (arith, c.in-Some.ensures.within);
      holds = p.invariant.holds ∙ next ∙ rw (← c.tallied-tally.ensures);
    }

pub returns-then-place-text : goal.returns-then-place-text
returns-then-place-text c =
    let p = c.loop-row in
    let bad = sym c.row_from.ensures.value ∙ c.in_default.is in
    sym (p.invariant.holds ∙ tally_bad c.args.text.now p.place p.tally c.if-place-text.true bad)

pub returns : goal.returns
returns c =
    let p = c.loop-row in sym (p.invariant.holds ∙ tally_end c.args.text.now p.place p.tally c.if-place-text.false)
