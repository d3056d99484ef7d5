use Rattle.std.proofs.lemmas.Result.{err_from_is_err_and}
use Rattle.build_string.proofs.Entered.{goes, overflows, grows}
use Rattle.build_string.proofs.enter.Goals as goal

pub returns-in-Ok : goal.returns-in-Ok
returns-in-Ok c =
    let a = c.args in
    let f = c.in-Ok.ensures in
    goes a.rows.now a.state.0 a.token.0 c.in-Ok.i c.to.result.0 f.0 f.1 c.to.ensures.0

pub returns-in_err-state-in-Err : goal.returns-in_err-state-in-Err
returns-in_err-state-in-Err c =
    let a = c.args in
    let e = c.in_err-state-in-Err.ensures in
    let p = err_from_is_err_and c.from_residual.result c.from_residual.ensures.1 in
    rw (p.1, p.2) (e.0, overflows a.rows.now a.state.0 a.token.0 c.in-Err.i c.in-Err.ensures e.1)

pub returns-in_ok-state-in-Err : goal.returns-in_ok-state-in-Err
returns-in_ok-state-in-Err c =
    let a = c.args in
    grows a.rows.now a.state.0 a.token.0 c.in-Err.i c.grow.new.self _ c.in-Err.ensures c.in_ok-state-in-Err.ensures
