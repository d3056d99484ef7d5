use mathlib.Core.Path.{refl}
use native.Mathlib.Numerals.{add-one}
use native.Mathlib.Omega.{arith}
use borrow.Author.Rules.{rules}
use Rattle.paper.specs.Checks.{production_fits}
use Rattle.rows.specs.Places.{given}
use Rattle.grow.specs.Seen.{seen}
use Rattle.grow_laws.proofs.Placed.{adds}
use Rattle.grow.proofs.Growing.grow.Goals as goal

pub invariant_of-self : goal.invariant_of-self
unfolding production_fits
invariant_of-self c =
    let a = c.args in
    let g = a.self.now in
    let h = adds (seen g) _ g.n a.i a.from.0 a.terminal.0 (given a.production) _ _ _ _ c.requires (omega arith)
    (search rules) (search rules) c.insert.ensures (search rules) (search rules) (search rules) (search rules) in
    record { laid = rw add-one h.laid }

pub returns : goal.returns
unfolding production_fits
returns c =
    let a = c.args in
    let g = a.self.now in
    record {
      added = adds (seen g) _ g.n a.i a.from.0 a.terminal.0 (given a.production) _ _ _ _ c.requires (omega arith)
          (search rules) (search rules) c.insert.ensures (search rules) (search rules) (search rules)
          (search rules);
      count = refl;
      state = refl;
    }
