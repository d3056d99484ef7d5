use mathlib.Core.Path.{◌≡◌, ap, sym, ◌∙◌}
use native.Mathlib.Omega.{arith}
use borrow.Author.Rules.{rules}
use mir.Syntax.{w32}
use mir.Val.{to_z, of_z}
use Rattle.paper.specs.Rows.{natural}
use Rattle.build_checks.proofs.Checked.{production_in}
use Rattle.build.proofs.Answering.{refused_lengths, refused_range}
use Rattle.build.proofs.checked.Goals as goal

pub returns-then-lengths : goal.returns-then-lengths
returns-then-lengths c =
    let l = c.args.list in
    λ old. refused_lengths l.production l.tokens.now l.lengths.now c.args.room old (sym c.if-lengths.ensures)

pub returns-then-range : goal.returns-then-range
returns-then-range c =
    let l = c.args.list in
    λ old. refused_range l.production l.tokens.now l.lengths.now c.args.room old (sym c.if-lengths.ensures)
    (sym c.if-range.ensures)

pub overflow_cast-q : goal.overflow_cast-q
overflow_cast-q c =
    let l = c.args.list in
    let p : to_z w32 (of_z w32 l.production) ≡ l.production = search rules in
    omega (
      arith,
      c.natural-q.ensures.is ∙ ap natural p,
      production_in l.production l.lengths.now (sym c.range.ensures ∙ c.if-range.false),
    )
