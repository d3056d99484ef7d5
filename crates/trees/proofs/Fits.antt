-- RANGE of a tree: its states are bounded by their count, so only productions, terminals and k are left.
-- Assumes nothing.
use mathlib.Core.Path.{◌≡◌, refl, ap}
use mathlib.Core.Logic.{⊎_elim}
use mathlib.Core.Bool.{Bool, true, false, not, cond, ◌&&◌}
use mathlib.Core.Option.{Option, none, some}
use mathlib.Core.List.Memᴰ
use mathlib.Core.List.{List, []}
use Prim.Native.Nat.{ℕ, zero, suc, ◌≤◌}
use native.Mathlib.Omega.{arith}
use lib.ListN.{length}
use lib.Dec.{eqb, leb}
use borrow.Author.Tests.{le-leb, leb-true, not-false}
use Rattle.laws.proofs.Members.{In, nowhere}
use Rattle.laws.proofs.Every.{both, first_of, second_of, every_true, every_in}
use Rattle.paper.specs.Rows.{Row, Table}
use Rattle.paper.specs.Checks.{every, production_fits, row_fits, range}
use Rattle.paper.specs.Build.{insert, give}
use Rattle.trees.proofs.Rising.{in_insert}
use Rattle.trees.proofs.Paint.{paint, give_rows}
use Rattle.trees.proofs.Tree.{Tree, up, to_le, into}

abbrev pub RowFits : Row → Type 0
RowFits r = (r.terminal ≤ 65535) × (production_fits r.production ≡ true)

abbrev pub RowsFit : List Row → Type 0
RowsFit rs = (r : Row) → In r rs → RowFits r

-- All numbers but the states are within bounds.
pub record Fits (t : Table) : Type 0 where
  pub root : production_fits t.prod0 ≡ true
  pub short : t.k ≤ 16
  pub rows : RowsFit t.rows

pub none_fits : production_fits none ≡ true
unfolding production_fits
none_fits = refl

pub some_fits : (q : ℕ) → q ≤ 65535 → production_fits (some q) ≡ true
unfolding production_fits
some_fits q l = le-leb q 65535 l

-- ---- the check
pub fits_range : (t : Table) → Tree t.rows → Fits t → suc (length t.rows) ≤ 1024 → range t ≡ false
unfolding range row_fits
fits_range t tr f l = ap not (both (production_fits t.prod0 && leb t.k 16) (every row_fits t.rows)
    (both (production_fits t.prod0) (leb t.k 16) f.root (le-leb t.k 16 f.short))
    (every_true row_fits t.rows row))
  where
    row : (r : Row) → In r t.rows → row_fits r ≡ true
    row r i =
        let u = up t.rows tr r i in
        let c = to_le t.rows tr r i in
        both (leb r.from 1023 && leb r.terminal 65535) (leb r.to 1023 && production_fits r.production)
        (both (leb r.from 1023) (leb r.terminal 65535)
        (le-leb r.from 1023 (omega arith)) (le-leb r.terminal 65535 (f.rows r i).0))
        (both (leb r.to 1023) (production_fits r.production)
        (le-leb r.to 1023 (omega arith)) (f.rows r i).1)

pub range_fits : (t : Table) → range t ≡ false → Fits t
unfolding range row_fits
range_fits t e = record {
  root = first_of (production_fits t.prod0) (leb t.k 16) head;
  short = leb-true t.k 16 (second_of (production_fits t.prod0) (leb t.k 16) head);
  rows = λ r i.
      let h = every_in row_fits t.rows tail r i in
      let states : Bool = leb r.from 1023 && leb r.terminal 65535 in
      let rest : Bool = leb r.to 1023 && production_fits r.production in
      let terminal = second_of (leb r.from 1023) (leb r.terminal 65535) (first_of states rest h) in (
        leb-true r.terminal 65535 terminal,
        second_of (leb r.to 1023) (production_fits r.production) (second_of states rest h),
      );
}
  where
    whole : (production_fits t.prod0 && leb t.k 16) && every row_fits t.rows ≡ true
    whole = not-false ((production_fits t.prod0 && leb t.k 16) && every row_fits t.rows) e

    head : production_fits t.prod0 && leb t.k 16 ≡ true
    head = first_of (production_fits t.prod0 && leb t.k 16) (every row_fits t.rows) whole

    tail : every row_fits t.rows ≡ true
    tail = second_of (production_fits t.prod0 && leb t.k 16) (every row_fits t.rows) whole

-- a state is at most 1,023
pub range_to : (t : Table) → range t ≡ false → (r : Row) → In r t.rows → r.to ≤ 1023
unfolding range row_fits
range_to t e r i =
    let head : Bool = production_fits t.prod0 && leb t.k 16 in
    let h = every_in row_fits t.rows
    (second_of head (every row_fits t.rows) (not-false (head && every row_fits t.rows) e)) r i in
    let states : Bool = leb r.from 1023 && leb r.terminal 65535 in
    let rest : Bool = leb r.to 1023 && production_fits r.production in
    leb-true r.to 1023 (first_of (leb r.to 1023) (production_fits r.production) (second_of states rest h))

-- a row leads to the state with the highest number, so a tree within bounds has at most 1,024 states
pub range_size : (t : Table) → Tree t.rows → range t ≡ false → suc (length t.rows) ≤ 1024
range_size t tr e = go (length t.rows) refl
  where
    go : (n : ℕ) → length t.rows ≡ n → suc (length t.rows) ≤ 1024
    go zero h = omega arith
    go (suc n) h =
        let (r, i, k) = into t.rows tr (length t.rows) (omega arith) (omega arith) in
        omega (arith, range_to t e r i, k)

-- ---- insert and give
pub fits_nil : RowsFit []
fits_nil r i = absurd (nowhere i)

pub fits_insert : (r : Row) (rs : List Row) → RowFits r → RowsFit rs → RowsFit (insert r rs)
fits_insert r rs h f x i = ⊎_elim (λ e. rw e h) (λ j. f x j) (in_insert r rs x i)

pub fits_give : (s : ℕ) (q : Option ℕ) (t : Table) → production_fits q ≡ true → RowsFit t.rows →
    RowsFit (give s q t).rows
unfolding paint
fits_give s q t h f = rw give_rows (λ x i.
    let (y, j, e) = Memᴰ.of_map (paint s q) t.rows i in
    rw (← e) ((f y j).0, go (eqb y.to s) y.production (f y j).1))
  where
    go : (b : Bool) (p : Option ℕ) → production_fits p ≡ true → production_fits (cond b q p) ≡ true
    go true p k = h
    go false p k = k

pub root_give : (s : ℕ) (q : Option ℕ) (t : Table) → production_fits q ≡ true → production_fits t.prod0 ≡ true →
    production_fits (give s q t).prod0 ≡ true
unfolding give
root_give s q t h k = go (eqb s 0)
  where
    go : (b : Bool) → production_fits (cond b q t.prod0) ≡ true
    go true = h
    go false = k
