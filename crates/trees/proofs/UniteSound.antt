-- Two tables that pass the checks for trees, united in either mode: what is accepted passes them again, and says what
-- the two say together; it is refused by 8 exactly where they disagree. Assumes nothing.
use mathlib.Core.Path.{◌≡◌, refl, sym, ◌∙◌, ap}
use mathlib.Core.Bool.{Bool, true, false, cond}
use mathlib.Core.Option.{Option}
use mathlib.Core.List.{List, [], reverse, reverse-reverse}
use Prim.Native.Nat.{ℕ, suc, ◌≤◌}
use native.Mathlib.Omega.{arith}
use lib.ListN.{length}
use lib.Dec.{ltb}
use Rattle.paper.specs.declared.Mode.{Mode}
use Rattle.paper.specs.declared.Mode.TheVariants.{Archive, Intake}
use Rattle.paper.specs.Rows.{Table}
use Rattle.paper.specs.Answers.{Ruling, accept, refuse, then, Made}
use Rattle.paper.specs.Checks.{production_fits, range}
use borrow.Author.Tests.{ltb-false}
use Rattle.paper.specs.Build.{within}
use Rattle.paper.specs.Unite.{root, united_k, United, take_rows, united}
use Rattle.trees.specs.Reach.{view}
use Rattle.trees.specs.Views.{seen}
use Rattle.trees.specs.Trees.{Treed, Sound}
use Rattle.trees.specs.Unions.{as_seen, Union, Unites}
use Rattle.trees.specs.Unions as unions
use Rattle.trees.proofs.Paths.{word, view_word}
use Rattle.trees.proofs.Checked.{tree_passes, passes_tree}
use Rattle.trees.proofs.Fits.{Fits, range_fits, fits_range}
use Rattle.trees.proofs.Taken.{Met, met, unmet, root_met, merge_fits}
use Rattle.trees.proofs.Kept.{Keeps, kept, off, keeps_fits}
use Rattle.trees.proofs.United.{Joined, Ends, joined, full, at_odds, united_good}

-- ---- in terms of views
view_back : (t : Table) (v : List ℕ) → view t (reverse v) ≡ word t v
view_back t v = view_word t (reverse v) ∙ ap (word t) (reverse-reverse v)

union_of : (mode : Mode) (A B T : Table) → Joined mode A B T → Union mode A B T
union_of mode A B T j = record {
  treed = tree_passes T j.tree;
  views = λ σ. rw (view_word T σ, view_word A σ, view_word (as_seen mode A B) σ) (j.words (reverse σ));
  agree = λ σ p q e f. j.agree (reverse σ) p q (sym (view_word A σ) ∙ e) (sym (view_word (as_seen mode A B) σ) ∙ f);
  longer = j.longer;
}

pub united_views : (mode : Mode) (A B : Table) → Treed A → Treed B → Unites mode A B (united mode A B)
united_views mode A B a b = go (united_good mode A B (passes_tree A a) (passes_tree B b))
  where
    go : {g : Ruling Made} → Ends mode A B g → Unites mode A B g
    go (joined {T} j l) = unions.joined (union_of mode A B T j) l
    go (full {T} j l) = unions.full (union_of mode A B T j) l
    go (at_odds v e f n) = unions.at_odds (reverse v) (view_back A v ∙ e) (view_back (as_seen mode A B) v ∙ f) n

pub united_treed : (mode : Mode) (A B : Table) → Treed A → Treed B → (m : Made) → united mode A B ≡ accept m →
    Treed m.table
united_treed mode A B a b m e = go (united_views mode A B a b) e
  where
    go : {g : Ruling Made} → Unites mode A B g → g ≡ accept m → Treed m.table
    go (unions.joined {T} j l) h =
        let z : record { table = T; states = suc (length T.rows) } ≡ m = cc in
        rw (← z) j.treed
    go (unions.full j l) h = let z : ◌≡◌ {A = ℕ} 0 1 = cc in absurd (omega arith)
    go (unions.at_odds σ x y n) h = let z : ◌≡◌ {A = ℕ} 0 1 = cc in absurd (omega arith)

-- ---- the bounds
seen_fits : (mode : Mode) (p q : Option ℕ) → production_fits p ≡ true → production_fits q ≡ true →
    production_fits (seen mode p q) ≡ true
unfolding seen
seen_fits Archive p q h k = h
seen_fits Intake p q h k = k

k_fits : (mode : Mode) (a b : ℕ) → a ≤ 16 → b ≤ 16 → united_k mode a b ≤ 16
unfolding united_k
k_fits Archive a b h k = h
k_fits Intake a b h k = omega arith

-- a table that is accepted
pub data Holds (P : Table → Type 0) : Ruling Made → Type 0 where
  holds : {m : Made} → P m.table → suc (length m.table.rows) ≤ 1024 → Holds P (accept m)
  refused : {n : ℕ} {d : List ℕ} → Holds P (refuse n d)

within_holds : (P : Table → Type 0) (t : Table) → P t → Holds P (within t)
unfolding within
within_holds P t p = go (ltb 1024 (suc (length t.rows))) refl
  where
    go : (b : Bool) → ltb 1024 (suc (length t.rows)) ≡ b →
        Holds P (cond b (refuse 14 []) (accept (record { table = t; states = suc (length t.rows) })))
    go true e = refused
    go false e = holds p (ltb-false 1024 (suc (length t.rows)) e)

pub united_fits : (mode : Mode) (A B : Table) → Fits A → Fits B → Holds Fits (united mode A B)
unfolding united
united_fits mode A B a b = go (root mode A.prod0 B.prod0) (root_met mode A.prod0 B.prod0)
  where
    k : ℕ
    k = united_k mode A.k B.k

    pB : Option ℕ
    pB = seen mode A.prod0 B.prod0

    rest : {g : Ruling United} → Keeps Fits g → Holds Fits (then g (λ u. within u.table))
    rest (kept {u} f) = within_holds Fits u.table f
    rest off = refused

    go : (g : Ruling (Option ℕ)) → Met mode A.prod0 pB g → Holds Fits (then g (λ p.
        then (take_rows mode (record { table = record { prod0 = p; k = k; rows = A.rows }; matches = [] }) B.rows)
        (λ u. within u.table)))
    go g (met h) = rest (keeps_fits mode B.rows _ (record {
      root = merge_fits mode A.prod0 pB a.root (seen_fits mode A.prod0 B.prod0 a.root b.root);
      short = k_fits mode A.k B.k a.short b.short;
      rows = a.rows;
    }) b.rows)
    go g (unmet e f n) = refused

pub united_sound : (mode : Mode) (A B : Table) → Sound A → Sound B → (m : Made) → united mode A B ≡ accept m →
    Sound m.table
united_sound mode A B a b m e =
    let treed = united_treed mode A B a.treed b.treed m e in
    record {
      ranged = ranged treed (united_fits mode A B (range_fits A a.ranged) (range_fits B b.ranged)) e;
      treed = treed;
    }
  where
    ranged : Treed m.table → {g : Ruling Made} → Holds Fits g → g ≡ accept m → range m.table ≡ false
    ranged treed (holds {m = n} f l) h =
        let z : n ≡ m = cc in
        fits_range m.table (passes_tree m.table treed) (rw z at f) (rw z at l)
    ranged treed refused h = let z : ◌≡◌ {A = ℕ} 0 1 = cc in absurd (omega arith)
