-- What `find` finds: a row that is there, for the state and the terminal; of rising rows each is found.
-- Assumes nothing.
use mathlib.Core.Path.{◌≡◌, refl, sym, ◌∙◌, ap, subst}
use mathlib.Core.Logic.{◌⊎◌, inl, inr}
use mathlib.Core.Bool.{Bool, true, false, cond, ◌&&◌}
use mathlib.Core.Option.{none, some}
use mathlib.Core.List.Memᴰ
use mathlib.Core.List.{List, [], ◌∷◌, ◌++◌}
use Prim.Native.Nat.{ℕ}
use lib.Dec.{eqb}
use borrow.Author.Tests.{eq-eqb}
use Rattle.laws.proofs.Members.{In, there, nowhere, where_in}
use Rattle.laws.proofs.Tests.{Test, same, apart, test, never}
use Rattle.laws.proofs.RowsRise.{RowsRise, rows_cons, not_before_itself}
use Rattle.paper.specs.Rows.{Row, find}

-- A row is for a state and a terminal.
abbrev pub is_for : Row → ℕ → ℕ → Bool
is_for r s t = eqb r.from s && eqb r.terminal t

pub is_for_self : (r : Row) → is_for r r.from r.terminal ≡ true
is_for_self r = rw (eq-eqb r.from r.from refl) (eq-eqb r.terminal r.terminal refl)

pub is_for_other : (r : Row) (s t : ℕ) → ((s ≡ r.from) × (t ≡ r.terminal) → ⊥) → is_for r s t ≡ false
is_for_other r s t h = go (test r.from s) (test r.terminal t)
  where
    go : Test r.from s (eqb r.from s) → Test r.terminal t (eqb r.terminal t) → is_for r s t ≡ false
    go (same a _) (same b _) = absurd (h (sym a, sym b))
    go (same a x) (apart b y) = rw (x, y)
    go (apart a x) b = rw x

-- What is found is there, and is for the state and the terminal.
pub find_in : (rs : List Row) (s t : ℕ) (r : Row) → find rs s t ≡ some r →
    In r rs × (r.from ≡ s) × (r.terminal ≡ t)
unfolding find
find_in [] s t r e = absurd (never e)
find_in (x ∷ rs) s t r e = go (test x.from s) (test x.terminal t) e (find_in rs s t r)
  where
    later : In r rs × (r.from ≡ s) × (r.terminal ≡ t) → In r (x ∷ rs) × (r.from ≡ s) × (r.terminal ≡ t)
    later k = (there k.0, k.1, k.2)

    go : Test x.from s (eqb x.from s) → Test x.terminal t (eqb x.terminal t) →
        cond (is_for x s t) (some x) (find rs s t) ≡ some r →
        (find rs s t ≡ some r → In r rs × (r.from ≡ s) × (r.terminal ≡ t)) →
        In r (x ∷ rs) × (r.from ≡ s) × (r.terminal ≡ t)
    go (same p a) (same q b) k ih =
        let k' : some x ≡ some r = rw (a, b) at k in
        let z : r ≡ x = cc in
        (Memᴰ.head z, ap (λ (y : Row). y.from) z ∙ p, ap (λ (y : Row). y.terminal) z ∙ q)
    go (same p a) (apart q b) k ih = later (ih (rw (a, b) at k))
    go (apart p a) q k ih = later (ih (rw a at k))

pub find_nil : (s t : ℕ) (r : Row) → find [] s t ≡ some r → ⊥
unfolding find
find_nil s t r e = never e

-- ---- rows one after the other
pub find_left : (xs ys : List Row) (s t : ℕ) (r : Row) → find xs s t ≡ some r → find (xs ++ ys) s t ≡ some r
unfolding find
find_left [] ys s t r e = absurd (never e)
find_left (x ∷ xs) ys s t r e = go (is_for x s t) (find_left xs ys s t r) e
  where
    go : (c : Bool) → (find xs s t ≡ some r → find (xs ++ ys) s t ≡ some r) →
        cond c (some x) (find xs s t) ≡ some r → cond c (some x) (find (xs ++ ys) s t) ≡ some r
    go true ih k = k
    go false ih k = ih k

pub find_right : (xs ys : List Row) (s t : ℕ) → find xs s t ≡ none → find (xs ++ ys) s t ≡ find ys s t
unfolding find
find_right [] ys s t e = refl
find_right (x ∷ xs) ys s t e = go (is_for x s t) (find_right xs ys s t) e
  where
    go : (c : Bool) → (find xs s t ≡ none → find (xs ++ ys) s t ≡ find ys s t) →
        cond c (some x) (find xs s t) ≡ none → cond c (some x) (find (xs ++ ys) s t) ≡ find ys s t
    go true ih k = absurd (never (sym k))
    go false ih k = ih k

-- ---- of rising rows each is found
pub in_find : (rs : List Row) (r : Row) → RowsRise rs → In r rs → find rs r.from r.terminal ≡ some r
unfolding find
in_find [] r h i = absurd (nowhere i)
in_find (x ∷ rs) r (rows_cons h k) i = go (where_in i) (in_find rs r k)
  where
    found : Row → Type 0
    found z = cond (is_for x z.from z.terminal) (some x) (find rs z.from z.terminal) ≡ some z

    go : (r ≡ x) ⊎ In r rs → (In r rs → find rs r.from r.terminal ≡ some r) → found r
    go (inl e) ih = subst found (sym e) (rw is_for_self)
    go (inr j) ih = rw (is_for_other x r.from r.terminal (not_before_itself x r (h r j))) (ih j)
