use lib.ListN.{length}
use Rattle.std.proofs.lemmas.Result.{err_from_is_err_and}
use Rattle.build_checks.proofs.Checked.{sane}
use Rattle.build.proofs.Answering.{accepted}
use Rattle.build.proofs.build.Goals as goal

pub returns-in_err-production : goal.returns-in_err-production
returns-in_err-production c =
    let p = err_from_is_err_and c.from_residual.result c.from_residual.ensures.1 in
    rw (p.1, p.2) (c.in_err-production.ensures c.args.out.now)

pub written-requires : goal.written-requires
written-requires c =
    let l = c.args.list in
    let e = c.in_ok-production.ensures in
    sane l.production l.tokens.now l.lengths.now (length c.args.out.now) e.0 e.1

pub returns : goal.returns
returns c =
    let l = c.args.list in
    let e = c.in_ok-production.ensures in
    accepted l.production l.tokens.now l.lengths.now (length c.args.out.now) c.args.out.now e.0 e.1 _ e.2 _ _
    c.written.ensures
