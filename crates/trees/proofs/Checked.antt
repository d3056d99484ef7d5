-- The checks 3 to 7 pass exactly the trees. Assumes nothing.
use mathlib.Core.Path.{◌≡◌, refl, sym, ◌∙◌, ap}
use mathlib.Core.Bool.{true, false, not, ◌&&◌}
use Prim.Native.Nat.{ℕ, zero, suc, ◌≤◌, ◌<◌}
use native.Mathlib.Omega.{arith}
use lib.ListN.{length}
use lib.Dec.{eqb, leb}
use borrow.Author.Tests.{eq-eqb, lt-leb, leb-false, not-false}
use Rattle.laws.proofs.Members.{In}
use Rattle.laws.proofs.Tests.{Test, same, apart, test}
use Rattle.laws.proofs.Every.{both, any_true, any_false, any_in}
use Rattle.laws.proofs.Productions.{same_production_refl}
use Rattle.paper.specs.Rows.{Row, Table}
use Rattle.paper.specs.Checks.{any, rising, order, shape, loose, same_production, split}
use Rattle.paper.specs.Checks.{rows_into, each_once, no_tree}
use Rattle.trees.specs.Trees.{Treed}
use Rattle.laws.proofs.RowsRise.{RowsRise, rise_rising, rising_rise}
use Rattle.laws.proofs.Find.{find_in, in_find}
use Rattle.trees.proofs.Counted.{into_one, once_in, into_some, one_in, sum_once, sum_in}
use Rattle.trees.proofs.Tree.{Tree, up, to_le, same_to, into}

-- ---- a tree passes
module _ (t : Table) (tr : Tree t.rows) where
  once_true : (n : ℕ) → n ≤ length t.rows → each_once t.rows n ≡ true
  unfolding each_once
  once_true zero l = refl
  once_true (suc n) l =
      let (x, i, e) = into t.rows tr (suc n) (omega arith) l in
      let one = into_one (suc n) t.rows x tr.rising i e
      (λ y j k. same_to t.rows tr y x j i (k ∙ sym e)) in
      both (eqb (rows_into t.rows (suc n)) 1) (each_once t.rows n)
      (eq-eqb (rows_into t.rows (suc n)) 1 one) (once_true n (omega arith))

  held : (r : Row) → In r t.rows →
      not (eqb r.from 0) && not (any (λ x. eqb x.to r.from) t.rows) ≡ false
  held r i = go (test r.from 0)
    where
      go : Test r.from 0 (eqb r.from 0) →
          not (eqb r.from 0) && not (any (λ x. eqb x.to r.from) t.rows) ≡ false
      go (same _ e) = rw e
      go (apart n e) =
          let u = up t.rows tr r i in
          let c = to_le t.rows tr r i in
          let (x, j, k) = into t.rows tr r.from (omega arith) (omega arith) in
          rw (e, any_true (λ x. eqb x.to r.from) t.rows x j (eq-eqb x.to r.from k))

  whole : (r : Row) → In r t.rows → (x : Row) → In x t.rows →
      eqb x.to r.to && not (same_production x.production r.production) ≡ false
  whole r i x j = go (test x.to r.to)
    where
      go : Test x.to r.to (eqb x.to r.to) →
          eqb x.to r.to && not (same_production x.production r.production) ≡ false
      go (same k e) =
          let z : x.production ≡ r.production = ap (λ (y : Row). y.production) (same_to t.rows tr x r j i k) in
          rw (e, z, same_production_refl r.production)
      go (apart k e) = rw e

  pub tree_passes : Treed t
  unfolding order shape loose split no_tree
  tree_passes = record {
    ordered = ap not (rise_rising t.rows tr.rising);
    shaped = any_false (λ r. leb r.to r.from) t.rows
        (λ r i. lt-leb r.to r.from (up t.rows tr r i));
    held = any_false (λ r. not (eqb r.from 0) && not (any (λ x. eqb x.to r.from) t.rows)) t.rows held;
    whole = any_false
        (λ r. any (λ x. eqb x.to r.to && not (same_production x.production r.production)) t.rows)
        t.rows
        (λ r i. any_false (λ x. eqb x.to r.to && not (same_production x.production r.production))
        t.rows (whole r i));
    once = ap not (once_true (length t.rows) (omega arith));
  }

-- ---- what passes is a tree
module _ (t : Table) (h : Treed t) where
  rises : RowsRise t.rows
  unfolding order
  rises = rising_rise t.rows (not-false (rising t.rows) h.ordered)

  one_into : (n : ℕ) → 0 < n → n ≤ length t.rows → rows_into t.rows n ≡ 1
  unfolding no_tree
  one_into = once_in t.rows (length t.rows) (not-false (each_once t.rows (length t.rows)) h.once)

  bounded : (x : Row) → In x t.rows → (0 < x.to) × (x.to ≤ length t.rows)
  bounded = sum_in t.rows (length t.rows) (omega (arith, sum_once t.rows (length t.rows) one_into))

  climbs : (x : Row) → In x t.rows → x.from < x.to
  unfolding shape
  climbs x i = leb-false x.to x.from (any_in (λ r. leb r.to r.from) t.rows h.shaped x i)

  same_row : (x y : Row) → In x t.rows → In y t.rows → x.to ≡ y.to → x ≡ y
  same_row x y i j e =
      let (l, m) = bounded y j in
      one_in y.to t.rows (omega (arith, one_into y.to l m)) x y i j e refl

  pub passes_tree : Tree t.rows
  passes_tree = record {
    branching = record {
      up = λ s u r e. let (i, a, b) = find_in t.rows s u r e in omega (arith, climbs r i, a);
      one = λ s u s' u' r r' e e' l.
          let (i, a, b) = find_in t.rows s u r e in
          let (i', a', b') = find_in t.rows s' u' r' e' in
          let z = same_row r r' i i' l in
          (sym a ∙ ap (λ (q : Row). q.from) z ∙ a', sym b ∙ ap (λ (q : Row). q.terminal) z ∙ b');
    };
    cap = λ s u r e. (bounded r (find_in t.rows s u r e).0).1;
    rising = rises;
    onto = λ n l m.
        let (x, i, e) = into_some n t.rows (omega (arith, one_into n l m)) in
        (x.from, x.terminal, x, in_find t.rows x rises i, e);
  }
