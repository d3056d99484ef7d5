-- A state's production by the first row into it.
-- Assumes nothing.
use mathlib.Core.Path.{◌≡◌, refl, sym, ◌∙◌}
use mathlib.Core.Bool.{Bool, true, false, cond}
use mathlib.Core.Option.{Option}
use mathlib.Core.List.{List, [], ◌∷◌}
use Prim.Native.Nat.{ℕ, suc, ◌<◌}
use native.Mathlib.Omega.{arith}
use lib.Dec.{eqb}
use lib.ListN.{get_or}
use lib.IntN.{ℤ}
use Rattle.paper.specs.Rows.{Row, rows_in}
use Rattle.paper.specs.Shrink.{production_of}
use Rattle.ruled.specs.Into.{into_from, Marked}
use Rattle.ruled.proofs.Firsts.{First, into_row}

-- no row leads into s
unentered : (p : Option ℕ) (i : ℕ) (rs : List Row) (s : ℕ) → into_from i rs s ≡ 0 → production_of p rs s ≡ p
unfolding into_from production_of
unentered p i [] s e = refl
unentered p i (r ∷ rs) s e = go (eqb r.to s) e (unentered p (suc i) rs s)
  where
    go : (b : Bool) → cond b (suc i) (into_from (suc i) rs s) ≡ 0
        → (into_from (suc i) rs s ≡ 0 → production_of p rs s ≡ p)
        → cond b r.production (production_of p rs s) ≡ p
    go true f ih = absurd (omega (arith, f))
    go false f ih = ih f

module _ (ns : List ℤ) (into : List ℕ) (m : Marked ns into) (s : ℕ) (l : s < 1024) where
  pub production_none : (p : Option ℕ) → get_or into s 0 ≡ 0 → p ≡ production_of p (rows_in ns) s
  production_none p z = sym (unentered p 0 (rows_in ns) s (sym (m.held s l) ∙ z))

  pub production_row : (i : ℕ) → suc i ≡ get_or into s 0 → First ns s i
  production_row i e = into_row ns s i (sym (m.held s l) ∙ sym e)
