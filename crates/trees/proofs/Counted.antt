-- How many rows lead into a state, counted by the check for trees. Assumes nothing.
use mathlib.Core.Path.{◌≡◌, refl, sym, ◌∙◌, ap}
use mathlib.Core.Logic.{⊎_elim, ◌⊎◌, inl, inr}
use mathlib.Core.Bool.{Bool, true, false, cond}
use mathlib.Core.List.{List, [], ◌∷◌}
use Prim.Native.Nat.{ℕ, zero, suc, ◌+◌, ◌≤◌, ◌<◌}
use native.Mathlib.Omega.{arith}
use lib.ListN.{length}
use lib.Dec.{eqb, leb}
use borrow.Author.Tests.{eqb-true, leb-true, leb-false, ne_eqb}
use Rattle.laws.proofs.Members.{In, here, there, nowhere, where_in}
use Rattle.laws.proofs.Tests.{Test, same, apart, test}
use Rattle.laws.proofs.Every.{first_of, second_of}
use Rattle.paper.specs.Rows.{Row}
use Rattle.paper.specs.Checks.{rows_into, each_once}
use Rattle.laws.proofs.RowsRise.{Before, RowsRise, rows_cons, not_before_itself}

into_none : (n : ℕ) (rs : List Row) → ((x : Row) → In x rs → x.to ≡ n → ⊥) → rows_into rs n ≡ 0
unfolding rows_into
into_none n [] h = refl
into_none n (r ∷ rs) h =
    rw (ne_eqb r.to n (h r here)) (into_none n rs (λ x i. h x (there i)))

-- rows rise, so a row stands once
pub into_one : (n : ℕ) (rs : List Row) (r : Row) → RowsRise rs → In r rs → r.to ≡ n →
    ((x : Row) → In x rs → x.to ≡ n → x ≡ r) → rows_into rs n ≡ 1
unfolding rows_into
into_one n [] r s i e h = absurd (nowhere i)
into_one n (y ∷ rs) r (rows_cons b s) i e h =
    go (test y.to n) (where_in i) (λ j. into_one n rs r s j e (λ x k. h x (there k)))
  where
    clear : (x : Row) → x ≡ y → Before y x → ⊥
    clear x z p = not_before_itself y x p (ap (λ (q : Row). q.from) z, ap (λ (q : Row). q.terminal) z)

    once : y.to ≡ n → (x : Row) → In x rs → x.to ≡ n → ⊥
    once k x l m = clear x (h x (there l) m ∙ sym (h y here k)) (b x l)

    go : Test y.to n (eqb y.to n) → (r ≡ y) ⊎ In r rs → (In r rs → rows_into rs n ≡ 1) →
        cond (eqb y.to n) (suc (rows_into rs n)) (rows_into rs n) ≡ 1
    go (same k t) j ih = rw t (ap suc (into_none n rs (once k)))
    go (apart k t) (inl j) ih = absurd (k (ap (λ (q : Row). q.to) (sym j) ∙ e))
    go (apart k t) (inr j) ih = rw t (ih j)

pub once_in : (rs : List Row) (m : ℕ) → each_once rs m ≡ true → (n : ℕ) → 0 < n → n ≤ m → rows_into rs n ≡ 1
unfolding each_once
once_in rs zero e n l h = absurd (omega arith)
once_in rs (suc m) e n l h = go (test n (suc m)) (once_in rs m)
  where
    here : rows_into rs (suc m) ≡ 1
    here = eqb-true (rows_into rs (suc m)) 1 (first_of (eqb (rows_into rs (suc m)) 1) (each_once rs m) e)

    below : each_once rs m ≡ true
    below = second_of (eqb (rows_into rs (suc m)) 1) (each_once rs m) e

    go : Test n (suc m) (eqb n (suc m)) → (each_once rs m ≡ true → (n : ℕ) → 0 < n → n ≤ m → rows_into rs n ≡ 1) →
        rows_into rs n ≡ 1
    go (same k _) ih = ap (rows_into rs) k ∙ here
    go (apart k _) ih = ih below n l (omega arith)

pub into_some : (n : ℕ) (rs : List Row) → 0 < rows_into rs n → (x : Row) × In x rs × (x.to ≡ n)
unfolding rows_into
into_some n [] h = absurd (omega arith)
into_some n (r ∷ rs) h = go (test r.to n) h (into_some n rs)
  where
    go : Test r.to n (eqb r.to n) → 0 < cond (eqb r.to n) (suc (rows_into rs n)) (rows_into rs n) →
        (0 < rows_into rs n → (x : Row) × In x rs × (x.to ≡ n)) → (x : Row) × In x (r ∷ rs) × (x.to ≡ n)
    go (same k _) l ih = (r, here, k)
    go (apart k e) l ih = let (x, i, j) = ih (rw e at l) in (x, there i, j)

into_there : (n : ℕ) (rs : List Row) (x : Row) → In x rs → x.to ≡ n → 0 < rows_into rs n
unfolding rows_into
into_there n [] x i e = absurd (nowhere i)
into_there n (r ∷ rs) x i e = go (test r.to n) (where_in i) (λ j. into_there n rs x j e)
  where
    go : Test r.to n (eqb r.to n) → (x ≡ r) ⊎ In x rs → (In x rs → 0 < rows_into rs n) →
        0 < cond (eqb r.to n) (suc (rows_into rs n)) (rows_into rs n)
    go (same k t) j ih = rw t (omega arith)
    go (apart k t) (inl j) ih = absurd (k (ap (λ (q : Row). q.to) (sym j) ∙ e))
    go (apart k t) (inr j) ih = rw t (ih j)

-- one row into n: any two are the same
pub one_in : (n : ℕ) (rs : List Row) → rows_into rs n ≤ 1 → (x y : Row) → In x rs → In y rs →
    x.to ≡ n → y.to ≡ n → x ≡ y
unfolding rows_into
one_in n [] h x y i j e f = absurd (nowhere i)
one_in n (r ∷ rs) h x y i j e f =
    go (test r.to n) h (where_in i) (where_in j) (one_in n rs)
  where
    to_of : (z : Row) → z ≡ r → z.to ≡ n → r.to ≡ n
    to_of z k l = ap (λ (q : Row). q.to) (sym k) ∙ l

    go : Test r.to n (eqb r.to n) → cond (eqb r.to n) (suc (rows_into rs n)) (rows_into rs n) ≤ 1 →
        (x ≡ r) ⊎ In x rs → (y ≡ r) ⊎ In y rs →
        (rows_into rs n ≤ 1 → (x y : Row) → In x rs → In y rs → x.to ≡ n → y.to ≡ n → x ≡ y) → x ≡ y
    go (same k t) l (inl a) (inl b) ih = a ∙ sym b
    go (same k t) l (inl a) (inr b) ih =
        let l' : suc (rows_into rs n) ≤ 1 = rw t at l in absurd (omega (arith, into_there n rs y b f))
    go (same k t) l (inr a) b ih =
        let l' : suc (rows_into rs n) ≤ 1 = rw t at l in absurd (omega (arith, into_there n rs x a e))
    go (apart k t) l (inl a) b ih = absurd (k (to_of x a e))
    go (apart k t) l (inr a) (inl b) ih = absurd (k (to_of y b f))
    go (apart k t) l (inr a) (inr b) ih = ih (rw t at l) x y a b e f

-- rows into 1 to n, counted by state and by row
pub sum_into : List Row → ℕ → ℕ
sum_into rs zero = 0
sum_into rs (suc n) = rows_into rs (suc n) + sum_into rs n

sum_nil : (n : ℕ) → sum_into [] n ≡ 0
unfolding sum_into rows_into
sum_nil zero = refl
sum_nil (suc n) = omega (arith, sum_nil n)

sum_off : (r : Row) (rs : List Row) (n : ℕ) → (r.to ≡ 0) ⊎ (n < r.to) → sum_into (r ∷ rs) n ≡ sum_into rs n
unfolding sum_into rows_into
sum_off r rs zero h = refl
sum_off r rs (suc n) h =
    let ne : r.to ≡ suc n → ⊥ = λ k. ⊎_elim (λ z. omega arith) (λ z. omega arith) h in
    rw (ne_eqb r.to (suc n) ne) (ap (λ (z : ℕ). rows_into rs (suc n) + z)
    (sum_off r rs n (⊎_elim (λ z. inl z) (λ z. inr (omega arith)) h)))

sum_le : (r : Row) (rs : List Row) (n : ℕ) → sum_into (r ∷ rs) n ≤ suc (sum_into rs n)
unfolding sum_into rows_into
sum_le r rs zero = omega arith
sum_le r rs (suc n) = go (test r.to (suc n)) (sum_le r rs n)
  where
    go : Test r.to (suc n) (eqb r.to (suc n)) → sum_into (r ∷ rs) n ≤ suc (sum_into rs n) →
        cond (eqb r.to (suc n)) (suc (rows_into rs (suc n))) (rows_into rs (suc n)) + sum_into (r ∷ rs) n
        ≤ suc (rows_into rs (suc n) + sum_into rs n)
    go (same k t) ih = rw t (omega (arith, sum_off r rs n (inr (omega arith))))
    go (apart k t) ih = rw t (omega arith)

sum_all : (rs : List Row) (n : ℕ) → sum_into rs n ≤ length rs
sum_all [] n = omega (arith, sum_nil n)
sum_all (r ∷ rs) n = omega (arith, sum_le r rs n, sum_all rs n)

pub sum_once : (rs : List Row) (n : ℕ) → ((i : ℕ) → 0 < i → i ≤ n → rows_into rs i ≡ 1) → sum_into rs n ≡ n
unfolding sum_into
sum_once rs zero h = refl
sum_once rs (suc n) h =
    omega (arith, h (suc n) (omega arith) (omega arith), sum_once rs n (λ i l m. h i l (omega arith)))

-- as many rows as states: no row leads elsewhere
pub sum_in : (rs : List Row) (n : ℕ) → length rs ≤ sum_into rs n → (x : Row) → In x rs → (0 < x.to) × (x.to ≤ n)
sum_in [] n h x i = absurd (nowhere i)
sum_in (r ∷ rs) n h x i = ⊎_elim
    (λ k. let e : x.to ≡ r.to = ap (λ (q : Row). q.to) k in go e)
    (λ j. sum_in rs n (omega (arith, h, sum_le r rs n)) x j)
    (where_in i)
  where
    bad : (r.to ≡ 0) ⊎ (n < r.to) → ⊥
    bad z = omega (arith, h, sum_off r rs n z, sum_all rs n)

    low : (m : ℕ) → r.to ≡ m → 0 < m
    low zero e = absurd (bad (inl e))
    low (suc m) e = omega arith

    high : (b : Bool) → leb r.to n ≡ b → r.to ≤ n
    high true e = leb-true r.to n e
    high false e = absurd (bad (inr (leb-false r.to n e)))

    go : x.to ≡ r.to → (0 < x.to) × (x.to ≤ n)
    go e = rw e (low r.to refl, high (leb r.to n) refl)
