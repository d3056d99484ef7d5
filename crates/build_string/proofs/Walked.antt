-- A string walked token by token; rows never become fewer; a walk that ends in state 0 marks no row.
-- Assumes nothing.
use mathlib.Core.Path.{◌≡◌, refl, ap, sym, ◌∙◌}
use mathlib.Core.Option.{none, some}
use mathlib.Core.Option as math
use mathlib.Core.List.{List, [], ◌∷◌, map}
use Prim.Native.Nat.{ℕ, ◌+◌, ◌<◌, ◌≤◌}
use native.Mathlib.Omega.{arith}
use native.Mathlib.Numerals.{add-one}
use lib.ListN.{length, get_or, drop, drop_of_length-le}
use lib.Seq.{drop-cons}
use Rattle.std.specs.Prelude.{Option, None}
use Rattle.paper.specs.Rows.{Row, find}
use Rattle.paper.specs.Build.{Standing, enter, walk_in}
use Rattle.trees.proofs.Find.{length_insert}
use Rattle.trees.proofs.Paths.{path}
use Rattle.trees.proofs.Paint.{paint}
use Rattle.trees.proofs.Tree.{Tree}
use Rattle.trees.proofs.Built as built
use Rattle.grow_laws.specs.Held.{next}
use Rattle.grow_laws.proofs.Painted.{paint_root}
use Rattle.grow.specs.declared.Growing.{Growing}
use Rattle.grow.specs.Seen.{seen, rows_of}
use Rattle.build_string.specs.Steps.{Leads, standing, Stands, Marked}

-- ---- rows only grow in number
pub enter_grows : (rs : List Row) (s t : ℕ) (o : math.Option Row) → length rs ≤ length (enter rs s t o).rows
unfolding enter
enter_grows rs s t none = omega (arith, length_insert (next (length rs) s t none) rs)
enter_grows rs s t (some r) = omega arith

pub walk_grows : (w : Standing) (σ : List ℕ) → length w.rows ≤ length (walk_in w σ).rows
unfolding walk_in
walk_grows w [] = omega arith
walk_grows w (t ∷ σ) =
    let v = enter w.rows w.state t (find w.rows w.state t) in
    omega (arith, enter_grows w.rows w.state t (find w.rows w.state t), walk_grows v σ)

-- ---- the walk from place i on
pub record Walking (w₀ : Standing) (σ : List ℕ) (g : Growing) (s : ℕ) (at : Option ℕ) (i : ℕ) : Type 0 where
  pub leads : Leads (seen g) g.n s at
  pub left : walk_in w₀ σ ≡ walk_in (standing g s) (drop i σ)

module _ (w₀ : Standing) (σ : List ℕ) (g : Growing) (s : ℕ) (at : Option ℕ) (i : ℕ) (w : Walking w₀ σ g s at i) where
  module _ (h : i < length σ) where
    abbrev entered : Standing
    entered = enter (rows_of g) s (get_or σ i 0) (find (rows_of g) s (get_or σ i 0))

    stepped : walk_in w₀ σ ≡ walk_in entered (drop (i + 1) σ)
    unfolding walk_in
    stepped = w.left ∙ ap (walk_in (standing g s)) (drop-cons σ i 0 h) ∙ rw add-one

    pub walk_on : (new : Growing) (u : ℕ) (row : Option ℕ) → Stands new u row entered → Walking w₀ σ new u row (i + 1)
    walk_on new u row e = record {
      leads = e.leads;
      left = stepped ∙ ap (λ (v : Standing). walk_in v (drop (i + 1) σ)) (sym e.is);
    }

    pub walk_full : 1023 < length entered.rows → 1023 < length (walk_in w₀ σ).rows
    walk_full e =
        omega (arith, ap (λ (x : Standing). length x.rows) stepped, walk_grows entered (drop (i + 1) σ))

  pub walk_ends : length σ ≤ i → Stands g s at (walk_in w₀ σ)
  unfolding walk_in
  walk_ends h = record {
    is = sym (w.left ∙ ap (walk_in (standing g s)) (drop_of_length-le σ h));
    leads = w.leads;
  }

-- ---- the mark
pub walk_tree : (w : Standing) (σ : List ℕ) → w.state ≡ 0 → Tree w.rows → Tree (walk_in w σ).rows
unfolding path
walk_tree w σ e tr = (built.walked none σ w [] (record { state = 0; production = none }) tr refl (sym e)).tree

module _ (g : Growing) (s q : ℕ) (tr : Tree (rows_of g)) where
  pub mark_root : Leads (seen g) g.n s None → Marked g g s q
  mark_root d = record {
    rows = sym (ap (λ (z : ℕ). map (paint z (some q)) (rows_of g)) d ∙ paint_root (some q) (rows_of g) tr);
  }
