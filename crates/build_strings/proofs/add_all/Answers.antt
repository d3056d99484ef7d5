use Prim.Native.Nat.{max}
use mathlib.Core.Path.{◌≡◌}
use native.Mathlib.Omega.{arith}
use borrow.Author.Rules.{rules}
use lib.ListN.{get_or}
use Rattle.std.proofs.lemmas.Result.{err_from_is_err_and}
use Rattle.rows.specs.Places.{given}
use Rattle.build_strings.proofs.Listed.{lists_all, listed, len_fits, lists_full, lists_next}
use Rattle.build_strings.proofs.add_all.Goals as goal

pub loop-len-init : goal.loop-len-init
loop-len-init c =
    let l = c.args.list in
    lists_all c.args.production.0 l.tokens.now l.lengths.now c.args.rows.now _ c.requires.0 c.requires.1
    c.first_prod0.ensures

pub split_at-requires : goal.split_at-requires
split_at-requires c =
    let l = c.loop-len in
    len_fits c.args.production.0 c.args.list.tokens.now c.args.list.lengths.now l.rows l.rest.now (given l.head.prod0)
    l.head.k l.len-index l.invariant (omega arith)

pub returns-in_err-state : goal.returns-in_err-state
returns-in_err-state c =
    let l = c.loop-len in
    let e = rw c.split_at.ensures.front at c.in_err-state.ensures in
    let p = err_from_is_err_and c.from_residual.result c.from_residual.ensures.1 in
    rw (p.1, p.2) (
      e.0,
      lists_full c.args.production.0 c.args.list.tokens.now c.args.list.lengths.now l.rows l.rest.now
          (given l.head.prod0) l.head.k l.len-index l.invariant (omega arith) e.1,
    )

pub loop-len-preserved : goal.loop-len-preserved
loop-len-preserved c =
    let l = c.loop-len in
    let k : c.max.result ≡ max l.head.k (get_or c.args.list.lengths.now l.len-index 0) = search rules in
    rw (k, c.split_at.ensures.back)
    (lists_next c.args.production.0 c.args.list.tokens.now c.args.list.lengths.now l.rows l.rest.now
    (given l.head.prod0) l.head.k l.len-index l.invariant (omega arith) c.add_string.new.rows c.in_ok-state.state.0
    (given c.next_prod0.result) (rw c.split_at.ensures.front at c.in_ok-state.ensures) c.next_prod0.ensures)

pub returns : goal.returns
returns c =
    let l = c.loop-len in
    listed c.args.production.0 c.args.list.tokens.now c.args.list.lengths.now l.rows l.rest.now (given l.head.prod0)
    l.head.k l.len-index l.invariant (omega arith)
