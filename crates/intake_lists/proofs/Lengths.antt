-- What check 1 leaves. Assumes nothing.
use mathlib.Core.Path.{◌≡◌}
use mathlib.Core.Bool.{Bool, true, false, not, ◌||◌}
use mathlib.Core.List.{List}
use Prim.Native.Nat.{ℕ, ◌<◌, ◌≤◌}
use native.Mathlib.Omega.{arith}
use borrow.Author.Tests.{lt-ltb, le-ltb, eq-eqb, ne_eqb, ltb-false, eqb-true, eqb-false, not-false}
use lib.Dec.{eqb, ltb}
use lib.ListN.{length}
use lib.IntN.{ℤ}
use Rattle.laws.proofs.Every.{neither}
use Rattle.paper.specs.Checks.{little_room}
use Rattle.paper.specs.Build.{sum}
use Rattle.intake_lists.specs.Call.{lists_lengths}
use Rattle.intake_lists.specs.Held.{Passed}

-- what the check leaves
pub passed : (ps : List ℤ) (cs ns ts : List ℕ) (room : ℕ) → lists_lengths ps cs ns ts room ≡ false →
    Passed ps cs ns ts room
unfolding lists_lengths little_room
passed ps cs ns ts room e =
    let uneven : Bool = not (eqb (length ps) (length cs)) in
    let strings : Bool = not (eqb (sum cs) (length ns)) in
    let tokens : Bool = not (eqb (sum ns) (length ts)) in
    let (a, e₁) = neither (ltb room 16384) (eqb (length ps) 0 || (uneven || (strings || tokens))) e in
    let (b, e₂) = neither (eqb (length ps) 0) (uneven || (strings || tokens)) e₁ in
    let (c, e₃) = neither uneven (strings || tokens) e₂ in
    let (d, f) = neither strings tokens e₃ in
    let some : length ps ≡ 0 → ⊥ = eqb-false (length ps) 0 b in
    record {
      space = ltb-false room 16384 a;
      some = omega arith;
      summed = record {
        each = eqb-true (length ps) (length cs) (not-false (eqb (length ps) (length cs)) c);
        strings = eqb-true (sum cs) (length ns) (not-false (eqb (sum cs) (length ns)) d);
        tokens = eqb-true (sum ns) (length ts) (not-false (eqb (sum ns) (length ts)) f);
      };
    }
