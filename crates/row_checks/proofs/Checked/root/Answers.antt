use Rattle.paper.specs.Rows.{table}
use Rattle.rows.proofs.Signed.{kept}
use Rattle.row_checks.proofs.Judged.{plain_bounded}
use Rattle.row_checks.proofs.Checked.root.Goals as goal

pub accepting-requires : goal.accepting-requires
accepting-requires c =
    let t = c.args.self.table in
    let h = (plain_bounded (table t.prod0 t.k t.rows.now) c.args.self.sound.checked).prod0 in
    rw (kept t.prod0 h) h
