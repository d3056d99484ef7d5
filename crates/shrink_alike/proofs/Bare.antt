-- The checks 4 and 6 look at the rows of a table alone. Assumes nothing.
use mathlib.Core.Path.{◌≡◌}
use mathlib.Core.Bool.{false}
use mathlib.Core.Option.{Option}
use mathlib.Core.List.{List}
use Prim.Native.Nat.{ℕ}
use Rattle.paper.specs.Rows.{Row}
use Rattle.paper.specs.Checks.{shape, split}

pub shape_rows : (p q : Option ℕ) (k l : ℕ) (rs : List Row)
    → shape (record { prod0 = p; k = k; rows = rs }) ≡ false → shape (record { prod0 = q; k = l; rows = rs }) ≡ false
unfolding shape
shape_rows p q k l rs e = e

pub split_rows : (p q : Option ℕ) (k l : ℕ) (rs : List Row)
    → split (record { prod0 = p; k = k; rows = rs }) ≡ false → split (record { prod0 = q; k = l; rows = rs }) ≡ false
unfolding split
split_rows p q k l rs e = e
