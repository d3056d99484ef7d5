-- The test of one row for LOOSE, by the mark of its from.
-- Assumes nothing.
use mathlib.Core.Path.{◌≡◌, refl, sym, ap, ◌∙◌}
use mathlib.Core.Bool.{Bool, true, false, not, ◌&&◌, false≢true}
use mathlib.Core.List.{List}
use Prim.Native.Nat.{ℕ, ◌<◌}
use native.Mathlib.Omega.{arith}
use borrow.Author.Tests.{eq-eqb, ne_eqb}
use lib.Dec.{eqb, eqb-suc-zero}
use lib.ListN.{get_or}
use lib.IntN.{ℤ}
use Rattle.std.specs.Prelude.{Option, Some, None}
use Rattle.std.specs.Option.{is_some}
use Rattle.paper.specs.Rows.{Row, rows_in}
use Rattle.paper.specs.Checks.{any}
use Rattle.ruled.specs.Into.{Marked, leads, hangs, row_mark}
use Rattle.ruled.proofs.Firsts.{into_any}

module _ (r : Row) (x : ℕ) (is : x ≡ r.from) where
  -- state 0 does not hang
  pub hang_zero : (rs : List Row) → x ≡ 0 → false ≡ hangs rs r
  hang_zero rs e = let z : r.from ≡ 0 = omega arith in simp (eq-eqb _ _ z)

  -- another hangs where nothing marks it
  pub hang_mark : (ns : List ℤ) (into : List ℕ) → Marked ns into → x < 1024 → (x ≡ 0 → ⊥)
      → eqb (get_or into x 0) 0 ≡ hangs (rows_in ns) r
  hang_mark ns into m l e =
      let z : r.from ≡ 0 → ⊥ = λ d. e (is ∙ d) in
      ap (λ (n : ℕ). eqb n 0) (m.held x l) ∙ into_any ns x
      ∙ ap (λ (s : ℕ). not (any (leads s) (rows_in ns))) is
      ∙ ap (λ (b : Bool). not b && not (any (leads r.from) (rows_in ns))) (sym (ne_eqb r.from 0 z))

-- a row is told by another mark than 0, no row by 0
pub some_row : (o : Option ℕ) → is_some o ≡ not (eqb (row_mark o) 0)
unfolding row_mark
some_row None = refl
some_row (Some i) = sym (ap not (eqb-suc-zero i))

pub no_row : (o : Option ℕ) (b : Bool) → is_some o ≡ not b → b ≡ eqb (row_mark o) 0
unfolding row_mark
no_row None true e = refl
no_row None false e = absurd (false≢true e)
no_row (Some i) true e = absurd (false≢true (sym e))
no_row (Some i) false e = sym (eqb-suc-zero i)
