use Rattle.row_checks.proofs.Judged.{plain_passed}
use Rattle.row_checks.proofs.Checked.rows.Goals as goal

pub invariant_of-result : goal.invariant_of-result
invariant_of-result c =
    let t = c.args.self.table in
    record { passed = plain_passed t.prod0 t.k t.rows.now c.args.self.sound.checked }
