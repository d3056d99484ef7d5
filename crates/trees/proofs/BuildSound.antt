-- Build makes a tree by the checks: 3 to 7 always, and 2 for strings within bounds that fill at most 1,024 states.
-- Assumes nothing.
use mathlib.Core.Path.{◌≡◌, refl}
use mathlib.Core.Bool.{true}
use mathlib.Core.Option.{Option, none, some}
use mathlib.Core.List.{List, [], ◌∷◌}
use Prim.Native.Nat.{ℕ, suc, max, ◌≤◌}
use native.Mathlib.Omega.{arith}
use lib.ListN.{length}
use Rattle.laws.proofs.Members.{In, here, there}
use Rattle.paper.specs.Rows.{Row, Table, find}
use Rattle.paper.specs.Checks.{production_fits}
use Rattle.paper.specs.Build.{give, Standing, enter, walk_in, add_string, add_strings, built}
use Rattle.paper.specs.Lists.{longest_string}
use Rattle.trees.specs.Trees.{Treed, Sound}
use Rattle.trees.specs.Bounds.{Short}
use Rattle.trees.proofs.Fits.{RowsFit, Fits, none_fits, some_fits, fits_nil, fits_insert, fits_give, root_give}
use Rattle.trees.proofs.Fits.{fits_range}
use Rattle.trees.proofs.Checked.{tree_passes}
use Rattle.trees.proofs.Built.{built_tree, nothing}

-- ---- k is the longest length
pub add_strings_k : (q : ℕ) (σs : List (List ℕ)) (t : Table) → (add_strings q t σs).k ≡ max t.k (longest_string σs)
unfolding add_strings add_string give longest_string
add_strings_k q [] t = omega arith
add_strings_k q (σ ∷ σs) t = omega (arith, add_strings_k q σs (add_string q t σ))

pub built_k : (q : ℕ) (σs : List (List ℕ)) → (built q σs).k ≡ longest_string σs
unfolding built longest_string
built_k q [] = refl
built_k q (σ ∷ σs) = omega (arith, add_strings_k q (σ ∷ σs) nothing)

pub longest_string_le : (σs : List (List ℕ)) → ((σ : List ℕ) → In σ σs → length σ ≤ 16) →
    longest_string σs ≤ 16
unfolding longest_string
longest_string_le [] h = omega arith
longest_string_le (σ ∷ σs) h =
    omega (arith, h σ here, longest_string_le σs (λ τ i. h τ (there i)))

-- ---- numbers stay within bounds
enter_fits : (rs : List Row) (s t : ℕ) (o : Option Row) → t ≤ 65535 → RowsFit rs → RowsFit (enter rs s t o).rows
unfolding enter
enter_fits rs s t none l f =
    fits_insert (record { from = s; terminal = t; to = suc (length rs); production = none }) rs (l, none_fits) f
enter_fits rs s t (some r) l f = f

walk_in_fits : (σ : List ℕ) (w : Standing) → ((t : ℕ) → In t σ → t ≤ 65535) → RowsFit w.rows →
    RowsFit (walk_in w σ).rows
unfolding walk_in
walk_in_fits [] w h f = f
walk_in_fits (t ∷ σ) w h f =
    let o = find w.rows w.state t in
    walk_in_fits σ (enter w.rows w.state t o) (λ u i. h u (there i))
    (enter_fits w.rows w.state t o (h t here) f)

module _ (q : ℕ) (small : q ≤ 65535) where
  root_string : (t : Table) (σ : List ℕ) → production_fits t.prod0 ≡ true →
      production_fits (add_string q t σ).prod0 ≡ true
  unfolding add_string
  root_string t σ h = root_give _ (some q) _ (some_fits q small) h

  rows_string : (t : Table) (σ : List ℕ) → ((u : ℕ) → In u σ → u ≤ 65535) → RowsFit t.rows →
      RowsFit (add_string q t σ).rows
  unfolding add_string
  rows_string t σ h f =
      fits_give _ (some q) _ (some_fits q small) (walk_in_fits σ (record { rows = t.rows; state = 0 }) h f)

  add_strings_fit : (σs : List (List ℕ)) (t : Table) → ((σ : List ℕ) → In σ σs → (u : ℕ) → In u σ → u ≤ 65535) →
      production_fits t.prod0 ≡ true → RowsFit t.rows →
      (production_fits (add_strings q t σs).prod0 ≡ true) × RowsFit (add_strings q t σs).rows
  unfolding add_strings
  add_strings_fit [] t h p f = (p, f)
  add_strings_fit (σ ∷ σs) t h p f = add_strings_fit σs (add_string q t σ) (λ τ i. h τ (there i))
      (root_string t σ p) (rows_string t σ (h σ here) f)

  pub built_fits : (σs : List (List ℕ)) → Short σs → Fits (built q σs)
  unfolding built
  built_fits [] s = record { root = some_fits q small; short = omega arith; rows = fits_nil }
  built_fits (σ ∷ σs) s =
      let (p, f) = add_strings_fit (σ ∷ σs) nothing s.token none_fits fits_nil in
      record { root = p; short = omega (arith, built_k q (σ ∷ σs), longest_string_le (σ ∷ σs) s.size); rows = f }

-- ---- the checks
pub built_treed : (q : ℕ) (σs : List (List ℕ)) → Treed (built q σs)
built_treed q σs = tree_passes (built q σs) (built_tree q σs)

pub built_sound : (q : ℕ) (σs : List (List ℕ)) → q ≤ 65535 → Short σs → suc (length (built q σs).rows) ≤ 1024 →
    Sound (built q σs)
built_sound q σs small s l = record {
  ranged = fits_range (built q σs) (built_tree q σs) (built_fits q small σs s) l;
  treed = built_treed q σs;
}
