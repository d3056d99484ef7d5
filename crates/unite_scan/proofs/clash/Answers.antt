use mathlib.Core.Path.{ap, ◌∙◌}
use lib.ListN.{get_or}
use native.Mathlib.Omega.{arith}
use Prim.Native.Nat.{ℕ}
use Rattle.std.specs.Prelude.{Ok, Err}
use Rattle.std.proofs.lemmas.Result.{err_from_is_err_and}
use Rattle.paper.specs.Rows.{rows_in}
use Rattle.counts.proofs.Arrays.{clear}
use Rattle.unite_scan.specs.Looking.{unmark}
use Rattle.unite_taking.proofs.Ongoing.{tree_of}
use Rattle.unite_scan.proofs.Scanning.{scan_begins, scan_ends, scan_clashes, scan_on, few_rows, looks_as}
use Rattle.unite_scan.proofs.clash.Goals as goal

pub loop-i-init : goal.loop-i-init
loop-i-init c =
    let a = c.args in
    scan_begins a.mode (rows_in a.first.rows.numbers.now) a.second.rows.numbers.now _ (tree_of a.first.treed)
    a.second.treed clear

pub returns-in_err-to : goal.returns-in_err-to
returns-in_err-to c =
    let a = c.args in
    let xs = rows_in a.first.rows.numbers.now in
    let l = c.loop-i in
    let p = err_from_is_err_and c.from_residual.result c.from_residual.ensures.1 in
    rw (p.1, p.2)
    (scan_clashes a.mode xs a.second.rows.numbers.now l.map l.i l.invariant (tree_of a.first.treed)
    (few_rows a.first.treed) a.second.treed (omega arith) c.in_err-to.field-0.0
    (looks_as a.mode xs (Err c.in_err-to.field-0.0)
    (c.unmark-from.ensures ∙ ap (λ (z : ℕ). unmark (get_or l.map z 0)) c.from.ensures.0)
    c.terminal.ensures.0 c.production.ensures c.in_err-to.ensures))

pub loop-i-preserved : goal.loop-i-preserved
loop-i-preserved c =
    let a = c.args in
    let xs = rows_in a.first.rows.numbers.now in
    let l = c.loop-i in
    rw (c.to.ensures.0, c.mark.ensures)
    (scan_on a.mode xs a.second.rows.numbers.now l.map l.i l.invariant (tree_of a.first.treed)
    (few_rows a.first.treed) a.second.treed (omega arith) _
    (looks_as a.mode xs (Ok c.in_ok-to.to)
    (c.unmark-from.ensures ∙ ap (λ (z : ℕ). unmark (get_or l.map z 0)) c.from.ensures.0)
    c.terminal.ensures.0 c.production.ensures c.in_ok-to.ensures))

pub returns : goal.returns
returns c =
    let a = c.args in
    let l = c.loop-i in
    scan_ends a.mode (rows_in a.first.rows.numbers.now) a.second.rows.numbers.now l.map l.i l.invariant (omega arith)
