-- Rising numbers as a loop over 0, 1, 2, .. meets them: how many and which are below s, and the rows of heads so far.
-- Assumes that the numbers rise where a law says so.
use mathlib.Core.Path.{◌≡◌, refl, sym, ◌∙◌, ap}
use mathlib.Core.Logic.{◌⊎◌, inl, inr}
use mathlib.Core.Bool.{Bool, true, false, cond}
use mathlib.Core.List.Memᴰ
use mathlib.Core.List.{List, [], ◌∷◌, ◌++◌, map, append-nil, append_assoc}
use Prim.Native.Nat.{ℕ, suc, ◌≤◌, ◌<◌}
use native.Mathlib.Omega.{arith}
use lib.ListN.{length}
use lib.Dec.{eqb, ltb}
use borrow.Author.Tests.{lt-ltb, le-ltb}
use Rattle.laws.proofs.Tests.{Test, same, apart, test, Below, is_below, not_below, below?}
use Rattle.laws.proofs.Members.{In, here, there, nowhere, where_in}
use Rattle.paper.specs.Rows.{Row, Table}
use Rattle.paper.specs.Shrink.{rows_of}
use Rattle.merging.specs.Numbers.{Ascending, asc_cons}
use Rattle.merging.specs.Marks.{place_among, under, source_of, marked_row, marked_rows}

-- ---- which are below s

pub under_zero : (xs : List ℕ) → under xs 0 ≡ []
unfolding under
under_zero [] = refl
under_zero (x ∷ xs) = rw (le-ltb x 0 (omega arith)) (under_zero xs)

under_none : (xs : List ℕ) (s : ℕ) → ((x : ℕ) → In x xs → s ≤ x) → under xs s ≡ []
unfolding under
under_none [] s h = refl
under_none (x ∷ xs) s h = rw (le-ltb x s (h x here)) (under_none xs s (λ y i. h y (there i)))

-- s is one of them
pub under_next : (xs : List ℕ) → Ascending xs → (s : ℕ) → In s xs → under xs (suc s) ≡ under xs s ++ (s ∷ [])
unfolding under
under_next [] a s i = absurd (nowhere i)
under_next (x ∷ xs) (asc_cons l a) s i = go (where_in i) (under_next xs a s)
  where
    go : (s ≡ x) ⊎ In s xs → (In s xs → under xs (suc s) ≡ under xs s ++ (s ∷ [])) →
        cond (ltb x (suc s)) (x ∷ under xs (suc s)) (under xs (suc s))
        ≡ cond (ltb x s) (x ∷ under xs s) (under xs s) ++ (s ∷ [])
    go (inl e) ih =
        let above : (y : ℕ) → In y xs → suc s ≤ y = λ y j. let z : x < y = l y j in omega (arith, z, e) in
        let rest : under xs (suc s) ≡ [] = under_none xs (suc s) above in
        let none_now : under xs s ≡ [] = under_none xs s (λ y j. omega (arith, above y j)) in
        rw (lt-ltb x (suc s) (omega (arith, e)), le-ltb x s (omega (arith, e)), rest, none_now, e)
    go (inr j) ih =
        let less : x < s = l s j in
        rw (lt-ltb x (suc s) (omega (arith, less)), lt-ltb x s less) (ap (λ (ys : List ℕ). x ∷ ys) (ih j))

-- s is none of them
pub under_skip : (xs : List ℕ) (s : ℕ) → (In s xs → ⊥) → under xs (suc s) ≡ under xs s
unfolding under
under_skip [] s off = refl
under_skip (x ∷ xs) s off = go (below? x s) (under_skip xs s (λ i. off (there i)))
  where
    go : Below x s (ltb x s) → under xs (suc s) ≡ under xs s →
        cond (ltb x (suc s)) (x ∷ under xs (suc s)) (under xs (suc s)) ≡ cond (ltb x s) (x ∷ under xs s) (under xs s)
    go (is_below l e) ih = rw (e, lt-ltb x (suc s) (omega (arith, l))) (ap (λ (ys : List ℕ). x ∷ ys) ih)
    go (not_below l e) ih = far (test s x)
      where
        far : Test s x (eqb s x) →
            cond (ltb x (suc s)) (x ∷ under xs (suc s)) (under xs (suc s))
            ≡ cond (ltb x s) (x ∷ under xs s) (under xs s)
        far (same f _) = absurd (off (Memᴰ.head f))
        far (apart f _) = rw (e, le-ltb x (suc s) (omega (arith, f, l))) ih

-- all are below n
pub under_all : (xs : List ℕ) (n : ℕ) → ((x : ℕ) → In x xs → x < n) → under xs n ≡ xs
unfolding under
under_all [] n h = refl
under_all (x ∷ xs) n h =
    rw (lt-ltb x n (h x here)) (ap (λ (ys : List ℕ). x ∷ ys) (under_all xs n (λ y i. h y (there i))))

-- ---- how many

pub under_length : (xs : List ℕ) (s : ℕ) → length (under xs s) ≡ place_among xs s
unfolding under place_among
under_length [] s = refl
under_length (x ∷ xs) s = go (ltb x s) (under_length xs s)
  where
    go : (b : Bool) → length (under xs s) ≡ place_among xs s →
        length (cond b (x ∷ under xs s) (under xs s)) ≡ cond b (suc (place_among xs s)) (place_among xs s)
    go true ih = ap suc ih
    go false ih = ih

pub place_next : (xs : List ℕ) → Ascending xs → (s : ℕ) → In s xs → place_among xs (suc s) ≡ suc (place_among xs s)
place_next xs a s i =
    sym (under_length xs (suc s))
    ∙ ap length (under_next xs a s i)
    ∙ snoc_length (under xs s)
    ∙ ap suc (under_length xs s)
  where
    snoc_length : (ys : List ℕ) → length (ys ++ (s ∷ [])) ≡ suc (length ys)
    snoc_length [] = refl
    snoc_length (y ∷ ys) = ap suc (snoc_length ys)

pub place_skip : (xs : List ℕ) (s : ℕ) → (In s xs → ⊥) → place_among xs (suc s) ≡ place_among xs s
place_skip xs s off = sym (under_length xs (suc s)) ∙ ap length (under_skip xs s off) ∙ under_length xs s

pub place_all : (xs : List ℕ) (n : ℕ) → ((x : ℕ) → In x xs → x < n) → place_among xs n ≡ length xs
place_all xs n h = sym (under_length xs n) ∙ ap length (under_all xs n h)

-- ---- the rows of one head more

pub marked_rows_next : (mark : ℕ → ℕ) (t : Table) (hs xs : List ℕ) (s : ℕ) →
    marked_rows mark t hs (xs ++ (s ∷ []))
    ≡ marked_rows mark t hs xs ++ map (marked_row mark t hs s) (rows_of t.rows (source_of mark t s))
unfolding marked_rows
marked_rows_next mark t hs [] s = append-nil _
marked_rows_next mark t hs (x ∷ xs) s =
    ap (λ (rs : List Row). map (marked_row mark t hs x) (rows_of t.rows (source_of mark t x)) ++ rs)
    (marked_rows_next mark t hs xs s)
    ∙ sym (append_assoc
    (map (marked_row mark t hs x) (rows_of t.rows (source_of mark t x)))
    (marked_rows mark t hs xs)
    (map (marked_row mark t hs s) (rows_of t.rows (source_of mark t s))))
