use mathlib.Core.Path.{◌≡◌, sym, ◌∙◌}
use borrow.Author.Tests.{eqb-true}
use borrow.Author.Rules.{rules}
use mir.Syntax.{w32}
use mir.Val.{to_z, of_z}
use Rattle.std.proofs.lemmas.Result.{err_from_is_err_and}
use Rattle.paper.specs.Build.{built, strings}
use Rattle.grow_laws.proofs.Answered.{answers_full}
use Rattle.build.proofs.Answering.{alone}
use Rattle.build.proofs.written.Goals as goal

pub returns-then-is_empty : goal.returns-then-is_empty
returns-then-is_empty c =
    let l = c.args.list in
    let e : to_z w32 (of_z w32 c.signed.result) ≡ c.signed.result = search rules in
    alone c.args.production.0 l.tokens.now l.lengths.now _ c.args.out.now (eqb-true _ 0 (sym c.if-is_empty.ensures))
    (e ∙ c.signed.ensures)

pub returns-in_err-head : goal.returns-in_err-head
returns-in_err-head c =
    let l = c.args.list in
    let e = c.in_err-head.ensures in
    let p = err_from_is_err_and c.from_residual.result c.from_residual.ensures.1 in
    rw (p.1, p.2, e.0)
    (answers_full (built c.args.production.0 (strings l.lengths.now l.tokens.now)) c.args.out.now e.1)
