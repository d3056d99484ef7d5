use native.Mathlib.Omega.{arith}
use borrow.Author.Rules.{rules}
use Rattle.grow_laws.proofs.Viewed.{slid}
use Rattle.grow_ends.proofs.Spread.spare.Goals as goal

pub invariant_of-self : goal.invariant_of-self
invariant_of-self c =
    let s = c.args.self.now in
    record {
      room = (slid s.buf s.lo c.args.n c.if-self-eq0.true c.requires (search rules) c.open_rows.new.buf
          c.open_rows.ensures (search rules)).room;
    }

pub returns-then-self-eq0 : goal.returns-then-self-eq0
returns-then-self-eq0 c =
    let s = c.args.self.now in (
      slid s.buf s.lo c.args.n c.if-self-eq0.true c.requires (search rules) c.open_rows.new.buf c.open_rows.ensures
          (search rules),
      omega arith,
    )
