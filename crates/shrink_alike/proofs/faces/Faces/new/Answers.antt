use mathlib.Core.Option.{none}
use Rattle.paper.specs.Rows.{accepting, table, rows_in}
use Rattle.rows.proofs.Signed.{kept}
use Rattle.row_checks.proofs.Judged.{bounded}
use Rattle.ruled.proofs.Passes.{ruled_passed}
use Rattle.shrink_alike.proofs.Bare.{shape_rows, split_rows}
use Rattle.shrink_alike.proofs.faces.Faces.new.Goals as goal

pub accepting-requires : goal.accepting-requires
accepting-requires c =
    let t = c.args.lent.table in
    let h = (bounded (table t.prod0 t.k t.rows.now) (ruled_passed (table t.prod0 t.k t.rows.now)
    c.args.lent.sound.checked).range).prod0 in
    rw (kept t.prod0 h) h

pub invariant_of-result : goal.invariant_of-result
invariant_of-result c =
    let t = c.args.lent.table in
    let r = ruled_passed (table t.prod0 t.k t.rows.now) c.args.lent.sound.checked in
    let few = c.few_rows-few.result in
    rw c.few_rows-few.ensures (record {
      indexed = (
        record {
          passed = rw c.few_rows-few.ensures at few.rows.passed;
          few = rw c.few_rows-few.ensures at few.few;
          starts = c.requires.1;
        },
        c.requires.0,
      );
      topped = rw c.few_rows-few.ensures at c.top.ensures;
      climbs = shape_rows (accepting t.prod0) none t.k 0 (rows_in t.rows.now) r.shape;
      whole = split_rows (accepting t.prod0) none t.k 0 (rows_in t.rows.now) r.split;
    })
