use Rattle.grow_laws.proofs.Answered.{laid_none}
use Rattle.grow.proofs.Growing.empty.Goals as goal

pub invariant_of-result : goal.invariant_of-result
invariant_of-result c = record { laid = laid_none _ c.empty.result.room }
