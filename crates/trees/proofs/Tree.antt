-- Trees, as rows: `insert` of a row to the next number and `give` keep them. Assumes nothing.
use mathlib.Core.Path.{◌≡◌, sym, ◌∙◌, ap, ap₂}
use mathlib.Core.Option.{Option, none, some}
use mathlib.Core.List.{List, [], map}
use Prim.Native.Nat.{ℕ, suc, ◌≤◌, ◌<◌}
use native.Mathlib.Omega.{arith}
use lib.ListN.{length, length-map}
use lib.Dec.{eqb}
use Rattle.laws.proofs.Members.{In}
use Rattle.laws.proofs.Tests.{Test, same, apart, test, never}
use Rattle.paper.specs.Rows.{Row, Table, find}
use Rattle.paper.specs.Build.{insert, give}
use Rattle.trees.specs.Reach.{Seat, Finder}
use Rattle.trees.proofs.Find.{length_insert, find_insert_here, find_insert_other}
use Rattle.laws.proofs.RowsRise.{RowsRise, rows_nil}
use Rattle.laws.proofs.Find.{find_in, find_nil, in_find}
use Rattle.trees.proofs.Rising.{rising_insert}
use Rattle.trees.proofs.Paint.{paint, painted, find_paint, rising_paint, give_rows}
use Rattle.trees.proofs.Paths.{path, Branching, Capped, low, leaf}
use Rattle.trees.proofs.Grown.{Grown, grown_tree, grown_cap}
use Rattle.trees.proofs.Given.{tree_given, cap_given}

-- Rows of a tree: rising, each to a higher state, one into each of the states 1 to the row count.
pub record Tree (rs : List Row) : Type 0 where
  pub branching : Branching (find rs)
  pub cap : Capped (find rs) (length rs)
  pub rising : RowsRise rs
  pub onto : (n : ℕ) → 0 < n → n ≤ length rs →
      (s : ℕ) × (t : ℕ) × (r : Row) × (find rs s t ≡ some r) × (r.to ≡ n)

pub no_rows : Tree []
no_rows = record {
  branching = record {
    up = λ s t r e. absurd (find_nil s t r e);
    one = λ s t s' t' r r' e. absurd (find_nil s t r e);
  };
  cap = λ s t r e. absurd (find_nil s t r e);
  rising = rows_nil;
  onto = λ n l h. absurd (omega arith);
}

-- The row that `enter` and `take_row` add.
abbrev pub next_row : List Row → ℕ → ℕ → Option ℕ → Row
next_row rs s t q = record { from = s; terminal = t; to = suc (length rs); production = q }

module _ (p : Option ℕ) (rs : List Row) (w : List ℕ) (x : Seat) (t : ℕ) (q : Option ℕ) (tr : Tree rs)
    (e : path p (find rs) w ≡ some x) (new : find rs x.state t ≡ none) where
  pub grown_insert : Grown p (find rs) (find (insert (next_row rs x.state t q) rs)) w x t
      (next_row rs x.state t q)
  grown_insert =
      let r = next_row rs x.state t q in
      record {
        tree = tr.branching;
        at₀ = e;
        new = new;
        here = find_insert_here r rs new;
        elsewhere = find_insert_other r rs;
        rise = omega (arith, low p (find rs) (length rs) tr.cap w x e);
        bare = λ u. leaf (find rs) (length rs) tr.branching tr.cap (suc (length rs)) u (omega arith);
        fresh = λ a b r k l. omega (arith, tr.cap a b r k, l);
      }

  pub tree_insert : Tree (insert (next_row rs x.state t q) rs)
  tree_insert = record {
    branching = grown_tree p (find rs) f' w x t r grown_insert;
    cap = rw length_insert (grown_cap p (find rs) f' w x t r grown_insert (length rs) tr.cap (omega arith));
    rising = rising_insert r rs tr.rising new;
    onto = λ n l h. onto n l (test n (suc (length rs))) (rw length_insert at h);
  }
    where
      r : Row
      r = next_row rs x.state t q

      f' : Finder
      f' = find (insert r rs)

      onto : (n : ℕ) → 0 < n → Test n (suc (length rs)) (eqb n (suc (length rs))) → n ≤ suc (length rs) →
          (s : ℕ) × (u : ℕ) × (y : Row) × (f' s u ≡ some y) × (y.to ≡ n)
      onto n l (same k _) h = (x.state, t, r, find_insert_here r rs new, sym k)
      onto n l (apart k _) h =
          let (s, u, y, e₁, e₂) = tr.onto n l (omega arith) in
          let off : (s ≡ x.state) × (u ≡ t) → ⊥ =
          λ k'. never (sym new ∙ ap₂ (find rs) (sym k'.0) (sym k'.1) ∙ e₁) in
          (s, u, y, find_insert_other r rs s u off ∙ e₁, e₂)

pub tree_paint : (s : ℕ) (q : Option ℕ) (rs : List Row) → Tree rs → Tree (map (paint s q) rs)
unfolding painted paint
tree_paint s q rs tr =
    let f' : Finder = find (map (paint s q) rs) in
    record {
      branching = tree_given (find rs) f' s q (find_paint s q rs) tr.branching;
      cap = rw length-map (cap_given (find rs) f' s q (find_paint s q rs) (length rs) tr.cap);
      rising = rising_paint s q rs tr.rising;
      onto = λ n l h.
          let (a, b, r, e₁, e₂) = tr.onto n l (rw length-map at h) in
          (a, b, paint s q r, find_paint s q rs a b ∙ ap (painted s q) e₁, e₂);
    }

pub tree_give : (s : ℕ) (q : Option ℕ) (t : Table) → Tree t.rows → Tree (give s q t).rows
tree_give s q t tr = rw give_rows (tree_paint s q t.rows tr)

-- ---- row by row
module _ (rs : List Row) (tr : Tree rs) where
  pub found : (x : Row) → In x rs → find rs x.from x.terminal ≡ some x
  found x i = in_find rs x tr.rising i

  pub up : (x : Row) → In x rs → x.from < x.to
  up x i = tr.branching.up x.from x.terminal x (found x i)

  pub to_le : (x : Row) → In x rs → x.to ≤ length rs
  to_le x i = tr.cap x.from x.terminal x (found x i)

  pub same_to : (x r : Row) → In x rs → In r rs → x.to ≡ r.to → x ≡ r
  same_to x r i j l =
      let (a, b) = tr.branching.one x.from x.terminal r.from r.terminal x r (found x i) (found r j) l in
      let z : some x ≡ some r = sym (found x i) ∙ ap₂ (find rs) a b ∙ found r j in
      cc

  pub into : (n : ℕ) → 0 < n → n ≤ length rs → (x : Row) × In x rs × (x.to ≡ n)
  into n l h = let (s, t, x, e₁, e₂) = tr.onto n l h in (x, (find_in rs s t x e₁).0, e₂)
