use Rattle.search.proofs.Stretch.{leaves, leaves_order}
use Rattle.search.proofs.leaving.Goals as goal

pub overflow_sub-result : goal.overflow_sub-result
overflow_sub-result c = leaves_order c.args.rows.numbers.now c.args.state.0 _ _ c.args.rows.passed c.lower-begin.ensures c.lower-end.ensures

pub returns : goal.returns
returns c = leaves c.args.rows.numbers.now c.args.state.0 _ _ c.args.rows.passed c.lower-begin.ensures c.lower-end.ensures
