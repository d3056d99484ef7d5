use Rattle.grow_laws.proofs.Begun.{begun_rows, begun_laid}
use Rattle.grow_laws.specs.Held.{view}
use Rattle.grow.proofs.Growing.copy.Goals as goal

pub invariant_of-self : goal.invariant_of-self
invariant_of-self c =
    let s = c.copy.new.self in
    record {
      laid = begun_laid c.args.lent.rows.numbers.now (view s.buf s.lo) _ c.copy.ensures.put c.count-self.ensures
          c.args.lent.whole c.args.lent.few s.room c.args.lent.rows.passed;
    }

pub returns-clause-is : goal.returns-clause-is
returns-clause-is c =
    let s = c.copy.new.self in
    begun_rows c.args.lent.rows.numbers.now (view s.buf s.lo) _ c.copy.ensures.put c.count-self.ensures c.args.lent.whole
