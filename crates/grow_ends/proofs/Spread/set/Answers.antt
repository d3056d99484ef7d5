use mathlib.Core.Path.{◌≡◌, ap, ◌∙◌}
use Prim.Native.Nat.{◌*◌}
use borrow.Author.Rules.{rules}
use lib.ListN.{set}
use lib.Seq.{drop-set-add}
use mir.Syntax.{w32}
use mir.Val.{to_z, of_z}
use Rattle.grow_laws.specs.Held.{view}
use Rattle.grow_ends.proofs.Spread.set.Goals as goal

pub returns : goal.returns
returns c =
    let s = c.args.self.now in
    let e : to_z w32 (of_z w32 c.args.number) ≡ c.args.number = search rules in
    drop-set-add (s.lo * 4) s.buf c.args.at _ ∙ ap (set (view s.buf s.lo) c.args.at) e
