-- Places among numbers: how many are lower. Assumes nothing, or that the numbers rise.
use mathlib.Core.Path.{◌≡◌, refl, ap}
use mathlib.Core.Logic.{◌⊎◌, inl, inr}
use mathlib.Core.Bool.{Bool, true, false, cond}
use mathlib.Core.List.{List, [], ◌∷◌}
use Prim.Native.Nat.{ℕ, zero, suc, ◌-◌, ◌≤◌, ◌<◌}
use native.Mathlib.Omega.{arith}
use lib.ListN.{length}
use lib.Dec.{eqb, ltb}
use borrow.Author.Tests.{lt-ltb, le-ltb}
use Rattle.laws.proofs.Tests.{Test, same, apart, test, Below, is_below, not_below, below?}
use Rattle.laws.proofs.Members.{In, here, there, nowhere, where_in}
use Rattle.merging.specs.Numbers.{Ascending, asc_cons}
use Rattle.merging.specs.Marks.{place_among}

place_le : (xs : List ℕ) (a b : ℕ) → a ≤ b → place_among xs a ≤ place_among xs b
unfolding place_among
place_le [] a b l = omega arith
place_le (x ∷ xs) a b l = go (below? x a) (below? x b) (place_le xs a b l)
  where
    go : Below x a (ltb x a) → Below x b (ltb x b) → place_among xs a ≤ place_among xs b →
        cond (ltb x a) (suc (place_among xs a)) (place_among xs a)
        ≤ cond (ltb x b) (suc (place_among xs b)) (place_among xs b)
    go (is_below p e) (is_below q f) ih = rw (e, f) (omega arith)
    go (is_below p e) (not_below q f) ih = absurd (omega arith)
    go (not_below p e) (is_below q f) ih = rw (e, f) (omega arith)
    go (not_below p e) (not_below q f) ih = rw (e, f) ih

pub place_lt : (xs : List ℕ) (a b : ℕ) → In a xs → a < b → place_among xs a < place_among xs b
unfolding place_among
place_lt [] a b i l = absurd (nowhere i)
place_lt (x ∷ xs) a b i l = go (below? x a) (below? x b) (where_in i) (λ j. place_lt xs a b j l)
  where
    go : Below x a (ltb x a) → Below x b (ltb x b) → (a ≡ x) ⊎ In a xs →
        (In a xs → place_among xs a < place_among xs b) →
        cond (ltb x a) (suc (place_among xs a)) (place_among xs a)
        < cond (ltb x b) (suc (place_among xs b)) (place_among xs b)
    go (is_below p e) (is_below q f) (inl j) ih = absurd (omega (arith, p, j))
    go (is_below p e) (is_below q f) (inr j) ih = rw (e, f) (omega (arith, ih j))
    go (is_below p e) (not_below q f) j ih = absurd (omega arith)
    go (not_below p e) (is_below q f) j ih = rw (e, f) (omega (arith, place_le xs a b (omega arith)))
    go (not_below p e) (not_below q f) (inl j) ih = absurd (omega (arith, j))
    go (not_below p e) (not_below q f) (inr j) ih = rw (e, f) (ih j)

pub place_inj : (xs : List ℕ) (a b : ℕ) → In a xs → In b xs → place_among xs a ≡ place_among xs b → a ≡ b
place_inj xs a b i j e = go (test a b) (below? a b)
  where
    go : Test a b (eqb a b) → Below a b (ltb a b) → a ≡ b
    go (same h _) l = h
    go (apart h _) (is_below l _) = absurd (omega (arith, place_lt xs a b i l, e))
    go (apart h _) (not_below l _) = absurd (omega (arith, place_lt xs b a j (omega arith), e))

pub place_zero : (xs : List ℕ) → place_among xs 0 ≡ 0
unfolding place_among
place_zero [] = refl
place_zero (x ∷ xs) = rw (le-ltb x 0 (omega arith)) (place_zero xs)

place_length : (xs : List ℕ) (a : ℕ) → place_among xs a ≤ length xs
unfolding place_among
place_length [] a = omega arith
place_length (x ∷ xs) a = go (ltb x a) (place_length xs a)
  where
    go : (b : Bool) → place_among xs a ≤ length xs →
        cond b (suc (place_among xs a)) (place_among xs a) ≤ suc (length xs)
    go true ih = omega arith
    go false ih = omega arith

pub place_within : (xs : List ℕ) (a : ℕ) → In a xs → place_among xs a < length xs
unfolding place_among
place_within [] a i = absurd (nowhere i)
place_within (x ∷ xs) a i = go (below? x a) (where_in i) (place_within xs a)
  where
    go : Below x a (ltb x a) → (a ≡ x) ⊎ In a xs → (In a xs → place_among xs a < length xs) →
        cond (ltb x a) (suc (place_among xs a)) (place_among xs a) < suc (length xs)
    go (is_below l e) (inl j) ih = absurd (omega (arith, l, j))
    go (is_below l e) (inr j) ih = rw e (omega (arith, ih j))
    go (not_below l e) j ih = rw e (omega (arith, place_length xs a))

-- rising numbers from b on: at most s - b are below s
place_from : (xs : List ℕ) → Ascending xs → (b s : ℕ) → ((x : ℕ) → In x xs → b ≤ x) → place_among xs s ≤ s - b
unfolding place_among
place_from [] a b s h = omega arith
place_from (x ∷ xs) (asc_cons l a) b s h = go (below? x s) (place_from xs a (suc x) s (λ y i. l y i))
  where
    go : Below x s (ltb x s) → place_among xs s ≤ s - suc x →
        cond (ltb x s) (suc (place_among xs s)) (place_among xs s) ≤ s - b
    go (is_below p e) ih = rw e (omega (arith, h x here))
    go (not_below p e) ih = rw e (omega arith)

pub place_low : (xs : List ℕ) → Ascending xs → (s : ℕ) → place_among xs s ≤ s
place_low xs a s = omega (arith, place_from xs a 0 s (λ x i. omega arith))

-- rising numbers at or above s: none is below it
place_none : (xs : List ℕ) (s : ℕ) → ((x : ℕ) → In x xs → s ≤ x) → place_among xs s ≡ 0
unfolding place_among
place_none [] s h = refl
place_none (x ∷ xs) s h = rw (le-ltb x s (h x here)) (place_none xs s (λ y i. h y (there i)))

-- each number below the length is a place
pub place_onto : (xs : List ℕ) → Ascending xs → (i : ℕ) → i < length xs → (x : ℕ) × In x xs × (place_among xs x ≡ i)
unfolding place_among
place_onto [] a i l = absurd (omega arith)
place_onto (x ∷ xs) (asc_cons h a) zero l =
    (x, here, rw (le-ltb x x (omega arith)) (place_none xs x (λ y i. let z = h y i in omega (arith, z))))
place_onto (x ∷ xs) (asc_cons h a) (suc i) l =
    let (y, j, e) = place_onto xs a i (omega arith) in
    (y, there j, rw (lt-ltb x y (h y j)) (ap suc e))
