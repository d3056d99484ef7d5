-- The numbers of a row within its bounds, column by column: none is below 0. Assumes nothing.
use mathlib.Core.Path.{◌≡◌}
use mathlib.Core.Bool.{true}
use mathlib.Core.List.{List}
use Prim.Native.Nat.{ℕ, zero, suc, ◌+◌, ◌*◌, ◌/◌, ◌<◌, ◌≤◌}
use native.Mathlib.Omega.{arith}
use native.Mathlib.Numerals.{unary_clauses}
use lib.ListN.{length, get_or}
use lib.IntN.{ℤ, pos}
use Rattle.paper.specs.Rows.{natural, rows_in}
use Rattle.paper.specs.Checks.{every, row_fits}
use Rattle.rows.proofs.Fits.{fits_at}

pub column_fits : (ns : List ℤ) → every row_fits (rows_in ns) ≡ true → (i c : ℕ) → i < length ns / 4 → c ≤ 2
    → natural (get_or ns (i * 4 + c) (pos 0)) ≤ 65535
column_fits ns e i zero l h = simp unary_clauses (omega (arith, (fits_at ns e i l).from))
column_fits ns e i (suc zero) l h = (fits_at ns e i l).terminal
column_fits ns e i (suc (suc zero)) l h = omega (arith, (fits_at ns e i l).to)
column_fits ns e i (suc (suc (suc c))) l h = absurd (omega arith)
