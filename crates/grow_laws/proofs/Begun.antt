-- The rows of a table copied into the array.
-- Assumes nothing.
use mathlib.Core.Path.{◌≡◌, ap}
use mathlib.Core.List.{List}
use Prim.Native.Nat.{ℕ, ◌*◌, ◌/◌, ◌≤◌}
use native.Mathlib.Omega.{arith}
use lib.ListN.{length, take}
use lib.IntN.{ℤ}
use Rattle.paper.specs.Rows.{rows_in}
use Rattle.rows.specs.Passed.{Passed}
use Rattle.grow_laws.specs.Held.{held, Laid}

module _ (ns buf : List ℤ) (n : ℕ) (same : take (length ns) buf ≡ ns) (count : n ≡ length ns / 4)
    (fours : length ns / 4 * 4 ≡ length ns) where
  read : take (n * 4) buf ≡ ns
  read = rw (count, fours) same

  pub begun_rows : held buf n ≡ rows_in ns
  begun_rows = ap rows_in read

  pub begun_laid : length ns ≤ 4092 → 4092 ≤ length buf → Passed ns → Laid buf n
  begun_laid few room p = record { few = omega (arith, fours, count); room = room; passed = rw read p }
