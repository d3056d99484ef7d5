use borrow.Author.Rules.{rules}
use Rattle.grow_laws.proofs.Viewed.{moved_down}
use Rattle.grow_ends.proofs.Spread.below.Goals as goal

pub returns : goal.returns
returns c =
    let a = c.args in
    let s = a.self.now in
    moved_down s.buf s.lo a.n a.p a.row (search rules) c.requires.0 c.requires.1 s.room _ (search rules)
    c.requires.2 c.insert_row.new.buf c.insert_row.ensures
