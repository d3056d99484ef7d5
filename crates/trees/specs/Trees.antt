-- Tables that document 01's checks find to be trees.
use Rattle.std.specs.Prelude.{◌≡◌, false}
use Rattle.paper.specs.Rows.{Table}
use Rattle.paper.specs.Checks.{range, order, shape, loose, split, no_tree}

-- The checks 3 to 7 do not refuse it.
pub record Treed (t : Table) : Type 0 where
  pub ordered : order t ≡ false
  pub shaped : shape t ≡ false
  pub held : loose t ≡ false
  pub whole : split t ≡ false
  pub once : no_tree t ≡ false

-- The checks 2 to 7 do not refuse it.
pub record Sound (t : Table) : Type 0 where
  pub ranged : range t ≡ false
  pub treed : Treed t
