use mathlib.Core.Path.{sym, ◌∙◌}
use native.Mathlib.Omega.{arith}
use Rattle.search.proofs.Finding.{found, missing_end, missing_here}
use Rattle.search.proofs.find.Goals as goal

pub returns-then-count-i : goal.returns-then-count-i
returns-then-count-i c =
    let a = c.args in (
      missing_end a.rows.numbers.now a.state.0 a.terminal.0 _ c.lower-i.ensures
          (omega arith),
      c.lower-i.ensures,
    )

pub returns-then-key-x : goal.returns-then-key-x
returns-then-key-x c =
    let a = c.args in
    let e = sym c.key.ensures ∙ c.if-key-x.true in (
      omega arith,
      found a.rows.numbers.now a.state.0 a.terminal.0 _ c.lower-i.ensures c.args.rows.passed (omega arith)
          (omega arith) e,
    )

pub returns : goal.returns
returns c =
    let a = c.args in (
      missing_here a.rows.numbers.now a.state.0 a.terminal.0 _ c.lower-i.ensures c.args.rows.passed (omega arith)
          (λ e. c.if-key-x.false (c.key.ensures ∙ e)),
      c.lower-i.ensures,
    )
