use Rattle.paper.specs.Rows.{table}
use Rattle.ruled.proofs.Passes.{ruled_passed, ruled_rows}
use Rattle.ruled.proofs.Ruled.few_rows.Goals as goal

pub invariant_of-result : goal.invariant_of-result
invariant_of-result c =
    let t = c.args.self.table in
    let s = c.args.self.sound in
    record { passed = ruled_rows t.prod0 t.k t.rows.now (ruled_passed (table t.prod0 t.k t.rows.now) s.checked) }

pub invariant_of-result-2 : goal.invariant_of-result-2
invariant_of-result-2 c = record { few = c.args.self.sound.sized.few }
