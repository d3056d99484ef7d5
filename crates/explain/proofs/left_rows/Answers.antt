use borrow.Author.Tests.{not-true, not-false}
use Rattle.explain.specs.Stopped.{stopped}
use Rattle.explain.proofs.Stretches.{lies_at_end, all_matched, no_rows, lies_there}
use Rattle.explain.proofs.left_rows.Goals as goal

pub returns-then-not-s : goal.returns-then-not-s
returns-then-not-s c =
    lies_at_end c.args.rows.numbers.now
    (all_matched c.args.rows.numbers.now (stopped c.args.s) (not-true _ c.if-not-s.true))

pub returns-then-span-eq0 : goal.returns-then-span-eq0
returns-then-span-eq0 c =
    let o = not-false _ c.if-not-s.false in
    lies_at_end c.args.rows.numbers.now
    (no_rows c.args.rows.numbers.now (stopped c.args.s) o _ _ c.leaving-span.ensures c.if-span-eq0.true)

pub returns : goal.returns
returns c =
    let o = not-false _ c.if-not-s.false in
    lies_there c.args.rows.numbers.now (stopped c.args.s) o _ _ c.leaving-span.ensures c.if-span-eq0.false
