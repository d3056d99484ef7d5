-- One row of the second table taken into the first: a row added, or a production given, in either mode.
-- Assumes nothing.
use mathlib.Core.Path.{◌≡◌, refl, ◌∙◌}
use mathlib.Core.Bool.{cond}
use mathlib.Core.Option.{Option, none, some}
use mathlib.Core.List.{List, ◌∷◌}
use Prim.Native.Nat.{ℕ, suc}
use lib.ListN.{length}
use lib.Dec.{eqb}
use Rattle.paper.specs.declared.Mode.{Mode}
use Rattle.paper.specs.Rows.{Row, Table, find}
use Rattle.paper.specs.Build.{insert, give}
use Rattle.trees.specs.Reach.{Seat, Finder, sit}
use Rattle.trees.specs.Views.{merge, join}
use Rattle.trees.proofs.Paint.{find_give}
use Rattle.trees.proofs.Paths.{path, word, onward_some}
use Rattle.trees.proofs.Grown.{grown_here, grown_keeps}
use Rattle.trees.proofs.Given.{reseat, path_given}
use Rattle.trees.proofs.Tree.{Tree, next_row, grown_insert, tree_insert, tree_give}
use Rattle.trees.proofs.Words.{only, grown_word, given_word}

-- Where a beginning leads in a table, its last token first.
abbrev pub lead : Table → List ℕ → Option Seat
lead t w = path t.prod0 (find t.rows) w

-- t' is t after the beginning u, which leads to s, was added or took the production q.
pub record Took (mode : Mode) (t t' : Table) (u : List ℕ) (q : Option ℕ) (s : ℕ) : Type 0 where
  pub tree : Tree t'.rows
  pub seat : Seat
  pub at : lead t' u ≡ some seat
  pub is : seat.state ≡ s
  pub keeps : (v : List ℕ) (x : Seat) → lead t v ≡ some x →
      (x' : Seat) × (lead t' v ≡ some x') × (x'.state ≡ x.state)
  pub words : (v : List ℕ) → word t' v ≡ join mode (word t v) (only u q v)

reseat_some : (s : ℕ) (z : Option ℕ) (o : Option Seat) (y : Seat) → o ≡ some y →
    reseat s z o ≡ some (record { state = y.state; production = cond (eqb y.state s) z y.production })
unfolding reseat
reseat_some s z o y k = rw k

module _ (mode : Mode) (t : Table) (w : List ℕ) (x : Seat) (a : ℕ) (q : Option ℕ) (tr : Tree t.rows)
    (e : lead t w ≡ some x) where
  pub took_new : find t.rows x.state a ≡ none →
      Took mode t
      (record { prod0 = t.prod0; k = t.k; rows = insert (next_row t.rows x.state a q) t.rows })
      (a ∷ w) q (suc (length t.rows))
  unfolding word
  took_new h =
      let p = t.prod0 in
      let rs = t.rows in
      let r = next_row rs x.state a q in
      let f' : Finder = find (insert r rs) in
      let g = grown_insert p rs w x a q tr e h in
      record {
        tree = tree_insert p rs w x a q tr e h;
        seat = sit r;
        at = grown_here p (find rs) f' w x a r g;
        is = refl;
        keeps = λ v y k. (y, grown_keeps p (find rs) f' w x a r g v y k, refl);
        words = grown_word mode p (find rs) f' w x a r g;
      }

  pub took_old : (r : Row) → find t.rows x.state a ≡ some r →
      Took mode t (give r.to (merge mode r.production q) t) (a ∷ w) q r.to
  unfolding word path give
  took_old r h =
      let p = t.prod0 in
      let f : Finder = find t.rows in
      let q' = merge mode r.production q in
      let f' : Finder = find (give r.to q' t).rows in
      let there : lead t (a ∷ w) ≡ some (sit r) = onward_some f (path p f w) a x e r h in
      let leads : (v : List ℕ) → lead (give r.to q' t) v ≡ reseat r.to q' (lead t v) =
      path_given f f' r.to q' (find_give r.to q' t) p in
      record {
        tree = tree_give r.to q' t tr;
        seat = record { state = r.to; production = cond (eqb r.to r.to) q' r.production };
        at = leads (a ∷ w) ∙ reseat_some r.to q' (lead t (a ∷ w)) (sit r) there;
        is = refl;
        keeps = λ v y l. (
          record { state = y.state; production = cond (eqb y.state r.to) q' y.production },
          leads v ∙ reseat_some r.to q' (lead t v) y l,
          refl,
        );
        words = given_word mode p f f' (a ∷ w) (sit r) r.to q tr.branching (find_give r.to q' t) there refl;
      }
