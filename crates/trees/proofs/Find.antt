-- What `find` finds after `insert`: the new row, or what was found before. Assumes nothing.
use mathlib.Core.Path.{◌≡◌, refl, sym, ap}
use mathlib.Core.Bool.{Bool, true, false, cond}
use mathlib.Core.Option.{none, some}
use mathlib.Core.List.{List, [], ◌∷◌}
use Prim.Native.Nat.{ℕ, suc}
use lib.ListN.{length}
pub use Rattle.laws.proofs.Members.{In}
use Rattle.laws.proofs.Tests.{never}
use Rattle.laws.proofs.Find.{is_for, is_for_self, is_for_other}
use Rattle.paper.specs.Rows.{Row, find}
use Rattle.paper.specs.Checks.{before}
use Rattle.paper.specs.Build.{insert}

pub length_insert : (r : Row) (rs : List Row) → length (insert r rs) ≡ suc (length rs)
unfolding insert
length_insert r [] = refl
length_insert r (x ∷ xs) = go (before r x) (length_insert r xs)
  where
    go : (c : Bool) → length (insert r xs) ≡ suc (length xs) →
        length (cond c (r ∷ x ∷ xs) (x ∷ insert r xs)) ≡ suc (suc (length xs))
    go true ih = refl
    go false ih = ap suc ih

pub find_insert_here : (r : Row) (rs : List Row) → find rs r.from r.terminal ≡ none →
    find (insert r rs) r.from r.terminal ≡ some r
unfolding find insert
find_insert_here r [] h = rw is_for_self
find_insert_here r (x ∷ xs) h = go (before r x) (find_insert_here r xs)
  where
    s : ℕ
    s = r.from

    t : ℕ
    t = r.terminal

    next : (c : Bool) → (find xs s t ≡ none → find (insert r xs) s t ≡ some r) →
        cond c (some x) (find xs s t) ≡ none → cond c (some x) (find (insert r xs) s t) ≡ some r
    next true ih k = absurd (never (sym k))
    next false ih k = ih k

    go : (c : Bool) → (find xs s t ≡ none → find (insert r xs) s t ≡ some r) →
        find (cond c (r ∷ x ∷ xs) (x ∷ insert r xs)) s t ≡ some r
    go true ih = rw is_for_self
    go false ih = next (is_for x s t) ih h

pub find_insert_other : (r : Row) (rs : List Row) (s t : ℕ) → ((s ≡ r.from) × (t ≡ r.terminal) → ⊥) →
    find (insert r rs) s t ≡ find rs s t
unfolding find insert
find_insert_other r [] s t h = rw is_for_other
find_insert_other r (x ∷ xs) s t h = go (before r x) (find_insert_other r xs s t h)
  where
    go : (c : Bool) → find (insert r xs) s t ≡ find xs s t →
        find (cond c (r ∷ x ∷ xs) (x ∷ insert r xs)) s t ≡ find (x ∷ xs) s t
    go true ih = rw (is_for_other r s t h)
    go false ih = rw ih
