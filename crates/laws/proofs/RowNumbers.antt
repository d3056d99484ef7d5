-- Rows written as numbers and read again are the same rows. Assumes nothing.
use mathlib.Core.Path.{◌≡◌, refl, ap, ◌∙◌}
use mathlib.Core.Bool.{false}
use mathlib.Core.Option.{Option, none, some}
use mathlib.Core.List.{List, [], ◌∷◌, ◌++◌}
use Prim.Native.Nat.{ℕ, ◌*◌, ◌%◌, ◌≤◌}
use native.Mathlib.Omega.{arith}
use native.Mathlib.Nat.{mul-mod_right}
use lib.ListN.{length}
use lib.IntN.{ℤ, pos}
use borrow.Author.Tests.{eq-eqb, le-ltb}
use Rattle.paper.specs.Rows.{Row, Table, accepting, signed, rows_in, numbers, table}
use Rattle.paper.specs.Checks.{row_slice}

pub accepting_signed : (p : Option ℕ) → accepting (signed p) ≡ p
accepting_signed none = refl
accepting_signed (some q) = refl

pub rows_numbers : (rs : List Row) → rows_in (numbers rs) ≡ rs
rows_numbers [] = refl
rows_numbers (r ∷ rs) = λ i. record {
  from = r.from;
  terminal = r.terminal;
  to = r.to;
  production = accepting_signed r.production i;
} ∷ rows_numbers rs i

pub table_numbers : (t : Table) → table (signed t.prod0) t.k (numbers t.rows) ≡ t
table_numbers t = λ i. record { prod0 = accepting_signed t.prod0 i; k = t.k; rows = rows_numbers t.rows i }

pub length_numbers : (rs : List Row) → length (numbers rs) ≡ 4 * length rs
length_numbers [] = refl
length_numbers (r ∷ rs) = omega (arith, length_numbers rs)

-- at most 4,096 rows are a row slice
pub slice_numbers : (rs : List Row) → length rs ≤ 4096 → row_slice (numbers rs) ≡ false
unfolding row_slice
slice_numbers rs l =
    let four : length (numbers rs) % 4 ≡ 0 = ap (λ (n : ℕ). n % 4) (length_numbers rs) ∙ mul-mod_right 4 (length rs) in
    let short : length (numbers rs) ≤ 16384 = omega (arith, length_numbers rs) in
    rw (eq-eqb (length (numbers rs) % 4) 0 four, le-ltb 16384 (length (numbers rs)) short)

pub numbers_append : (xs ys : List Row) → numbers (xs ++ ys) ≡ numbers xs ++ numbers ys
numbers_append [] ys = refl
numbers_append (r ∷ rs) ys = ap
    (λ (z : List ℤ). pos r.from ∷ pos r.terminal ∷ pos r.to ∷ signed r.production ∷ z)
    (numbers_append rs ys)
