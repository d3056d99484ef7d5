-- The tests of RANGE, as the code makes them one after the other.
-- Assumes nothing.
use mathlib.Core.Path.{◌≡◌, refl, ap, ◌∙◌}
use mathlib.Core.Bool.{Bool, true, false, not, ◌&&◌}
use mathlib.Core.Option.{Option, none, some}
use mathlib.Core.List.{List}
use Prim.Native.Nat.{ℕ, ◌/◌, ◌≤◌, ◌<◌}
use native.Mathlib.Omega.{arith}
use borrow.Author.Tests.{le-leb, lt-leb, leb-true}
use lib.Dec.{leb, leb-suc-suc}
use lib.ListN.{length}
use lib.IntN.{ℤ}
use Rattle.paper.specs.Rows.{Row, Table, rows_in}
use Rattle.paper.specs.Checks.{production_fits, row_fits, every, range}
use Rattle.rows.specs.Places.{code, row_at}
use Rattle.rows.proofs.Rest.{both, every_at}

pub code_fits : (p : Option ℕ) → leb (code p) 65536 ≡ production_fits p
unfolding production_fits
code_fits none = refl
code_fits (some q) = leb-suc-suc q 65535

-- prod0 by its code, and k
pub head_coded : (p : Option ℕ) (k c : ℕ) → c ≡ code p → (leb c 65536 && leb k 16) ≡ (production_fits p && leb k 16)
head_coded p k c e = ap (λ (b : Bool). b && leb k 16) (ap (λ (n : ℕ). leb n 65536) e ∙ code_fits p)

module _ (r : Row) where
  pub from_out : 1023 < r.from → false ≡ row_fits r
  unfolding row_fits
  from_out h = simp (lt-leb _ _ h)

  pub terminal_out : r.from ≤ 1023 → 65535 < r.terminal → false ≡ row_fits r
  unfolding row_fits
  terminal_out a h = simp (le-leb _ _ a, lt-leb _ _ h)

  pub to_out : r.from ≤ 1023 → r.terminal ≤ 65535 → 1023 < r.to → false ≡ row_fits r
  unfolding row_fits
  to_out a b h = simp (le-leb _ _ a, le-leb _ _ b, lt-leb _ _ h)

  pub production_left : r.from ≤ 1023 → r.terminal ≤ 65535 → r.to ≤ 1023
      → production_fits r.production ≡ row_fits r
  unfolding row_fits
  production_left a b c = simp (le-leb _ _ a, le-leb _ _ b, le-leb _ _ c)

module _ (t : Table) where
  pub head_out : (production_fits t.prod0 && leb t.k 16) ≡ false → range t ≡ true
  unfolding range
  head_out h = rw h

  pub rows_left : (production_fits t.prod0 && leb t.k 16) ≡ true → not (every row_fits t.rows) ≡ range t
  unfolding range
  rows_left h = rw h

-- what a row within its bounds is
pub record Fit (r : Row) : Type 0 where
  pub from : r.from ≤ 1023
  pub terminal : r.terminal ≤ 65535
  pub to : r.to ≤ 1023
  pub production : code r.production ≤ 65536

pub fit : (r : Row) → row_fits r ≡ true → Fit r
unfolding row_fits
fit r e =
    let h = both (leb r.from 1023 && leb r.terminal 65535) _ e in
    let a = both (leb r.from 1023) _ h.0 in
    let b = both (leb r.to 1023) _ h.1 in
    record {
      from = leb-true _ _ a.0;
      terminal = leb-true _ _ a.1;
      to = leb-true _ _ b.0;
      production = leb-true _ _ (code_fits r.production ∙ b.1);
    }

-- a row of rows that all are
pub fits_at : (ns : List ℤ) → every row_fits (rows_in ns) ≡ true → (i : ℕ) → i < length ns / 4 → Fit (row_at ns i)
fits_at ns e i l = fit (row_at ns i) (every_at row_fits ns i e (omega arith))
