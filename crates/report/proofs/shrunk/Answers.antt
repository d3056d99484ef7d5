-- `report::shrunk` meets its contract: shrink's answer. Assumes nothing.
use Rattle.std.proofs.Common.{refl, length, arith}
use Rattle.std.proofs.lemmas.Result.{err_from_is_err_and}
use Rattle.report.proofs.Shrinking.{shrunk_refused, shrunk_sized, shrunk_small}
use Rattle.report.proofs.shrunk.Goals as goal

pub returns-in_err-made : goal.returns-in_err-made
returns-in_err-made c =
    let p = err_from_is_err_and c.from_residual.result c.from_residual.ensures.1 in
    rw (p.1, p.2)
    (shrunk_refused c.requires c.args.mode (length c.args.spare.now) (omega arith) _ c.in_err-made.ensures)

pub invariant_of-result : goal.invariant_of-result
invariant_of-result c =
    record {
      small = shrunk_small c.requires c.args.mode (length c.args.spare.now) (omega arith) _ c.in_ok-made.ensures;
    }

pub returns : goal.returns
returns c =
    shrunk_sized c.requires c.args.mode (length c.args.spare.now) (omega arith) _ c.in_ok-made.ensures _ refl refl
