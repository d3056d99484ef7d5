-- `give` gives one state another production, and nothing else: rows stay as many, rising, and are found.
-- Assumes nothing.
use mathlib.Core.Path.{◌≡◌, refl, subst}
use mathlib.Core.Bool.{Bool, true, false, cond}
use mathlib.Core.Option.{Option, none, some}
use mathlib.Core.List.Memᴰ
use mathlib.Core.List.{List, [], ◌∷◌, map}
use Prim.Native.Nat.{ℕ}
use lib.ListN.{length, length-map}
use lib.Dec.{eqb}
use Rattle.laws.proofs.Tests.{never}
use Rattle.paper.specs.Rows.{Row, Table, find}
use Rattle.paper.specs.Build.{give}
use Rattle.laws.proofs.RowsRise.{Before, RowsRise, rows_nil, rows_cons}
use Rattle.laws.proofs.Find.{is_for}

-- A row into the state s takes the production q.
unfoldable pub paint : ℕ → Option ℕ → Row → Row
paint s q r = record {
  from = r.from;
  terminal = r.terminal;
  to = r.to;
  production = cond (eqb r.to s) q r.production;
}

unfoldable pub painted : ℕ → Option ℕ → Option Row → Option Row
painted s q none = none
painted s q (some r) = some (paint s q r)

pub give_rows : (s : ℕ) (q : Option ℕ) (t : Table) → (give s q t).rows ≡ map (paint s q) t.rows
unfolding give paint
give_rows s q t = refl

pub length_give : (s : ℕ) (q : Option ℕ) (t : Table) → length (give s q t).rows ≡ length t.rows
unfolding give
length_give s q t = rw length-map

pub find_paint : (s : ℕ) (q : Option ℕ) (rs : List Row) (a b : ℕ) →
    find (map (paint s q) rs) a b ≡ painted s q (find rs a b)
unfolding find painted paint
find_paint s q [] a b = refl
find_paint s q (r ∷ rs) a b = go (is_for r a b) (find_paint s q rs a b)
  where
    go : (c : Bool) → find (map (paint s q) rs) a b ≡ painted s q (find rs a b) →
        cond c (some (paint s q r)) (find (map (paint s q) rs) a b) ≡ painted s q (cond c (some r) (find rs a b))
    go true ih = refl
    go false ih = ih

pub find_give : (s : ℕ) (q : Option ℕ) (t : Table) (a b : ℕ) →
    find (give s q t).rows a b ≡ painted s q (find t.rows a b)
find_give s q t a b = rw give_rows (find_paint s q t.rows a b)

-- What is found after it was found before, and leads to the same state.
pub painted_inv : (s : ℕ) (q : Option ℕ) (o : Option Row) (r : Row) → painted s q o ≡ some r →
    (x : Row) × (o ≡ some x) × (x.to ≡ r.to)
unfolding painted paint
painted_inv s q none r e = absurd (never e)
painted_inv s q (some x) r e = (x, refl, cc)

pub rising_paint : (s : ℕ) (q : Option ℕ) (rs : List Row) → RowsRise rs → RowsRise (map (paint s q) rs)
unfolding paint
rising_paint s q [] h = rows_nil
rising_paint s q (r ∷ rs) (rows_cons h k) = rows_cons
    (λ x i. let (y, j, e) = Memᴰ.of_map (paint s q) rs i in subst (λ (z : Row). Before (paint s q r) z) e (h y j))
    (rising_paint s q rs k)
