use native.Mathlib.Omega.{arith}
use Rattle.std.specs.Prelude.{Ok, Err}
use Rattle.std.proofs.lemmas.Result.{err_from_is_err_and}
use Rattle.counts.proofs.Arrays.{clear}
use Rattle.grow.specs.Seen.{rows_of}
use Rattle.unite_taking.proofs.Rowed.{took_as}
use Rattle.unite_taking.proofs.Ongoing.{begins, ends, row_read, halts, goes_on}
use Rattle.unite_taking.proofs.take_rows.Goals as goal

pub loop-i-init : goal.loop-i-init
loop-i-init c =
    let a = c.args in
    begins a.mode a.second.rows.numbers.now a.growing.now _ c.requires a.second.treed clear

pub returns-in_err-state : goal.returns-in_err-state
returns-in_err-state c =
    let a = c.args in
    let b = a.second.rows.numbers.now in
    let l = c.loop-i in
    let p = err_from_is_err_and c.from_residual.result c.from_residual.ensures.1 in
    rw (p.1, p.2)
    (halts a.mode (rows_of a.growing.now) b l.growing l.map l.i l.invariant a.second.treed (omega arith) _
    (took_as c.take_row.new.growing (Err c.in_err-state.field-0.0)
    (row_read a.mode (rows_of a.growing.now) b l.growing l.map l.i l.invariant a.second.treed (omega arith)
    c.from.ensures.0 c.terminal.ensures.0 c.production.ensures)
    c.in_err-state.ensures))

pub loop-i-preserved : goal.loop-i-preserved
loop-i-preserved c =
    let a = c.args in
    let b = a.second.rows.numbers.now in
    let l = c.loop-i in
    rw c.to.ensures.0
    (goes_on a.mode (rows_of a.growing.now) b l.growing l.map l.i l.invariant a.second.treed (omega arith) _ _
    (took_as c.take_row.new.growing (Ok c.in_ok-state.state)
    (row_read a.mode (rows_of a.growing.now) b l.growing l.map l.i l.invariant a.second.treed (omega arith)
    c.from.ensures.0 c.terminal.ensures.0 c.production.ensures)
    c.in_ok-state.ensures))

pub returns : goal.returns
returns c =
    let a = c.args in
    let l = c.loop-i in
    ends a.mode (rows_of a.growing.now) a.second.rows.numbers.now l.growing l.map l.i l.invariant (omega arith)
