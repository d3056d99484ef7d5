-- A table's states rise, and are 0 and every to. Assumes nothing.
use mathlib.Core.Path.{◌≡◌, sym, ap, subst}
use mathlib.Core.Logic.{⊎_elim, ◌⊎◌, inl, inr}
use mathlib.Core.Bool.{Bool, true, false, cond}
use mathlib.Core.List.Memᴰ
use mathlib.Core.List.{List, [], ◌∷◌}
use Prim.Native.Nat.{ℕ, suc, ◌≤◌}
use native.Mathlib.Omega.{arith}
use lib.ListN.{length}
use lib.Dec.{eqb, ltb}
use Rattle.laws.proofs.Tests.{Test, same, apart, test, Below, is_below, not_below, below?}
use Rattle.laws.proofs.Members.{In, here, there, nowhere, where_in}
use Rattle.paper.specs.Rows.{Row, with_number, states}
use Rattle.paper.specs.Shrink.{rows_of}
use Rattle.merging.specs.Numbers.{Ascending, asc_nil, asc_cons}

abbrev put : ℕ → ℕ → List ℕ → Bool → Bool → List ℕ
put x y ys less equals = cond less (x ∷ y ∷ ys) (cond equals (y ∷ ys) (y ∷ with_number x ys))

in_with : (x : ℕ) (ys : List ℕ) (z : ℕ) → In z (with_number x ys) → (z ≡ x) ⊎ In z ys
unfolding with_number
in_with x [] z i = where_in i
in_with x (y ∷ ys) z i = go (ltb x y) (eqb x y) i (in_with x ys z)
  where
    late : (z ≡ x) ⊎ In z ys → (z ≡ x) ⊎ In z (y ∷ ys)
    late (inl e) = inl e
    late (inr e) = inr (there e)

    go : (b c : Bool) → In z (put x y ys b c) → (In z (with_number x ys) → (z ≡ x) ⊎ In z ys) →
        (z ≡ x) ⊎ In z (y ∷ ys)
    go true c j ih = where_in j
    go false true j ih = inr j
    go false false j ih = ⊎_elim (λ e. inr (Memᴰ.head e)) (λ k. late (ih k)) (where_in j)

with_self : (x : ℕ) (ys : List ℕ) → In x (with_number x ys)
unfolding with_number
with_self x [] = here
with_self x (y ∷ ys) = go (ltb x y) (test x y) (with_self x ys)
  where
    go : (b : Bool) → Test x y (eqb x y) → In x (with_number x ys) → In x (put x y ys b (eqb x y))
    go true c ih = here
    go false (same e h) ih = subst (λ (t : Bool). In x (put x y ys false t)) (sym h) (Memᴰ.head e)
    go false (apart e h) ih = subst (λ (t : Bool). In x (put x y ys false t)) (sym h) (there ih)

with_old : (x : ℕ) (ys : List ℕ) (z : ℕ) → In z ys → In z (with_number x ys)
unfolding with_number
with_old x [] z i = absurd (nowhere i)
with_old x (y ∷ ys) z i = go (ltb x y) (eqb x y) (with_old x ys z)
  where
    go : (b c : Bool) → (In z ys → In z (with_number x ys)) → In z (put x y ys b c)
    go true c ih = there i
    go false true ih = i
    go false false ih = ⊎_elim (λ e. Memᴰ.head e) (λ k. there (ih k)) (where_in i)

with_ascends : (x : ℕ) (ys : List ℕ) → Ascending ys → Ascending (with_number x ys)
unfolding with_number
with_ascends x [] r = asc_cons (λ m i. absurd (nowhere i)) asc_nil
with_ascends x (y ∷ ys) (asc_cons h r) = go (below? x y) (test x y) (with_ascends x ys r)
  where
    go : Below x y (ltb x y) → Test x y (eqb x y) → Ascending (with_number x ys) →
        Ascending (put x y ys (ltb x y) (eqb x y))
    go (is_below l e) c ih = rw e (asc_cons {s = x} {ss = y ∷ ys}
        (λ m i. ⊎_elim (λ k. omega (arith, l, k)) (λ k. omega (arith, l, h m k)) (where_in i))
        (asc_cons h r))
    go (not_below l e) (same k f) ih = rw (e, f) (asc_cons h r)
    go (not_below l e) (apart k f) ih = rw (e, f) (asc_cons {s = y} {ss = with_number x ys}
        (λ m i. ⊎_elim (λ q. omega (arith, l, q, k)) (λ q. h m q) (in_with x ys m i))
        ih)

with_length : (x : ℕ) (ys : List ℕ) → length (with_number x ys) ≤ suc (length ys)
unfolding with_number
with_length x [] = omega arith
with_length x (y ∷ ys) = go (ltb x y) (eqb x y) (with_length x ys)
  where
    go : (b c : Bool) → length (with_number x ys) ≤ suc (length ys) → length (put x y ys b c) ≤ suc (suc (length ys))
    go true c ih = omega arith
    go false true ih = omega arith
    go false false ih = omega arith

-- ---- states

pub states_ascend : (rs : List Row) → Ascending (states rs)
unfolding states
states_ascend [] = asc_cons (λ m i. absurd (nowhere i)) asc_nil
states_ascend (r ∷ rs) = with_ascends r.to (states rs) (states_ascend rs)

pub zero_state : (rs : List Row) → In 0 (states rs)
unfolding states
zero_state [] = here
zero_state (r ∷ rs) = with_old r.to (states rs) 0 (zero_state rs)

pub to_state : (rs : List Row) (r : Row) → In r rs → In r.to (states rs)
unfolding states
to_state [] r i = absurd (nowhere i)
to_state (x ∷ rs) r i = ⊎_elim
    (λ e. subst (λ (y : Row). In y.to (with_number x.to (states rs))) (sym e) (with_self x.to (states rs)))
    (λ j. with_old x.to (states rs) r.to (to_state rs r j))
    (where_in i)

pub in_states : (rs : List Row) (s : ℕ) → In s (states rs) → (s ≡ 0) ⊎ ((r : Row) × In r rs × (r.to ≡ s))
unfolding states
in_states [] s i = ⊎_elim (λ e. inl e) (λ j. absurd (nowhere j)) (where_in i)
in_states (x ∷ rs) s i = ⊎_elim
    (λ e. inr (x, here, sym e))
    (λ j. ⊎_elim (λ e. inl e) (λ k. inr (k.0, there k.1, k.2)) (in_states rs s j))
    (in_with x.to (states rs) s i)

pub states_length : (rs : List Row) → length (states rs) ≤ suc (length rs)
unfolding states
states_length [] = omega arith
states_length (r ∷ rs) = omega (arith, with_length r.to (states rs), states_length rs)

-- ---- rows of a state

-- a row of a state is a row of the table
pub rows_of_in : (rs : List Row) (s : ℕ) (o : ℕ × ℕ) → In o (rows_of rs s) →
    (r : Row) × In r rs × (r.from ≡ s) × (o ≡ (r.terminal, r.to))
unfolding rows_of
rows_of_in [] s o i = absurd (nowhere i)
rows_of_in (r ∷ rs) s o i = go (test r.from s) i (rows_of_in rs s o)
  where
    Found : List Row → Type 0
    Found xs = (x : Row) × In x xs × (x.from ≡ s) × (o ≡ (x.terminal, x.to))

    later : Found rs → Found (r ∷ rs)
    later k = (k.0, there k.1, k.2, k.3)

    go : Test r.from s (eqb r.from s) →
        In o (cond (eqb r.from s) ((r.terminal, r.to) ∷ rows_of rs s) (rows_of rs s)) →
        (In o (rows_of rs s) → Found rs) → Found (r ∷ rs)
    go (same h e) j ih = ⊎_elim (λ k. (r, here, h, k)) (λ k. later (ih k)) (where_in (rw e at j))
    go (apart h e) j ih = later (ih (rw e at j))

-- a row of a state leads to a state
pub rows_of_state : (rs : List Row) (s : ℕ) (o : ℕ × ℕ) → In o (rows_of rs s) → In o.1 (states rs)
rows_of_state rs s o i =
    let (r, j, _, e) = rows_of_in rs s o i in
    subst (λ (z : ℕ). In z (states rs)) (sym (ap (λ (q : ℕ × ℕ). q.1) e)) (to_state rs r j)
