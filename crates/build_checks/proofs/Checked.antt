-- What the checks 1 and 2 leave.
-- Assumes nothing.
use mathlib.Core.Path.{◌≡◌}
use mathlib.Core.Bool.{false, not, ◌||◌}
use mathlib.Core.List.{List}
use Prim.Native.Nat.{ℕ, ◌≤◌}
use borrow.Author.Tests.{ltb-false, leb-true, eqb-true, not-false}
use lib.Dec.{eqb, ltb, leb}
use lib.ListN.{length}
use lib.IntN.{ℤ}
use Rattle.laws.proofs.Every.{neither}
use Rattle.paper.specs.Rows.{natural}
use Rattle.paper.specs.Checks.{any, little_room}
use Rattle.paper.specs.Build.{sum, build_lengths, build_range}
use Rattle.build_checks.specs.Sane.{Sane}
use Rattle.build_checks.proofs.Totals.{over}

module _ (p : ℤ) (ns : List ℕ) where
  range_parts : build_range p ns ≡ false → (not (leb (natural p) 65535) ≡ false) × (any over ns ≡ false)
  unfolding build_range
  range_parts e = neither (not (leb (natural p) 65535)) (any over ns) e

  pub production_in : build_range p ns ≡ false → natural p ≤ 65535
  production_in e = leb-true _ _ (not-false (leb (natural p) 65535) (range_parts e).0)

-- what the two checks leave
pub sane : (p : ℤ) (ts ns : List ℕ) (room : ℕ) → build_lengths ts ns room ≡ false → build_range p ns ≡ false
    → Sane ts ns room
unfolding build_lengths little_room
sane p ts ns room a b =
    let h = neither (ltb room 16384) (ltb 1024 (length ns) || not (eqb (sum ns) (length ts))) a in
    let k = neither (ltb 1024 (length ns)) (not (eqb (sum ns) (length ts))) h.1 in
    record {
      sums = eqb-true (sum ns) (length ts) (not-false (eqb (sum ns) (length ts)) k.1);
      short = (range_parts p ns b).1;
      space = ltb-false room 16384 h.0;
    }
