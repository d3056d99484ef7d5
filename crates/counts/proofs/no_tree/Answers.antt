-- More rows than states are no tree; else the counts decide.
use native.Mathlib.Omega.{arith}
use Rattle.counts.proofs.Arrays.{clear, fitting}
use Rattle.counts.proofs.Once.{many, tree_as}
use Rattle.counts.proofs.no_tree.Goals as goal

pub returns-then-count-gt1023 : goal.returns-then-count-gt1023
returns-then-count-gt1023 c =
    let few = c.args.few in
    many few.rows.numbers.now (fitting few.rows.passed few.few) (omega arith)

pub count-requires-2 : goal.count-requires-2
count-requires-2 c = clear

pub returns : goal.returns
returns c = tree_as c.args.few.rows.numbers.now c.each_once.result c.each_once.ensures
