-- Rows that rise by (from, terminal): `insert` keeps them rising, and a part of them rises.
-- Assumes nothing.
use mathlib.Core.Path.{◌≡◌, refl, sym, ◌∙◌, subst}
use mathlib.Core.Logic.{⊎_elim, ◌⊎◌, inl, inr}
use mathlib.Core.Bool.{Bool, true, false, cond, false≢true}
use mathlib.Core.Option.{Option, none, some}
use mathlib.Core.List.Memᴰ
use mathlib.Core.List.{List, [], ◌∷◌, ◌++◌}
use native.Mathlib.Omega.{arith}
use lib.Dec.{eqb, ltb}
use Rattle.laws.proofs.Members.{In, here, there, nowhere, where_in}
use Rattle.laws.proofs.Tests.{Test, same, apart, test, Below, is_below, not_below, below?, never}
use Rattle.laws.proofs.RowsRise.{Before, RowsRise, rows_nil, rows_cons, before_trans, rise_rising, rising_rise}
pub use Rattle.laws.proofs.RowsRise.{not_before_itself}
use Rattle.laws.proofs.Find.{is_for, is_for_self}
use Rattle.paper.specs.Rows.{Row, find}
use Rattle.paper.specs.Checks.{before, rising}
use Rattle.paper.specs.Build.{insert}

-- Names for the shared laws.
abbrev pub Rising : List Row → Type 0
Rising rs = RowsRise rs

pub rising_true : (rs : List Row) → Rising rs → rising rs ≡ true
rising_true rs h = rise_rising rs h

pub true_rising : (rs : List Row) → rising rs ≡ true → Rising rs
true_rising rs e = rising_rise rs e

-- The three ways two rows can stand, and what the test says.
pub data Order (a b : Row) (t : Bool) : Type 0 where
  first : Before a b → t ≡ true → Order a b t
  after : Before b a → t ≡ false → Order a b t
  level : (a.from ≡ b.from) × (a.terminal ≡ b.terminal) → t ≡ false → Order a b t

pub order? : (a b : Row) → Order a b (before a b)
unfolding before
order? a b = go (below? a.from b.from) (test a.from b.from)
    (below? a.terminal b.terminal) (test a.terminal b.terminal)
  where
    go : Below a.from b.from (ltb a.from b.from) →
        Test a.from b.from (eqb a.from b.from) →
        Below a.terminal b.terminal (ltb a.terminal b.terminal) →
        Test a.terminal b.terminal (eqb a.terminal b.terminal) → Order a b (before a b)
    go (is_below l e) f g h = first (inl l) (rw e)
    go (not_below l e) (same k f) (is_below m g) h = first (inr (k, m)) (rw (e, f, g))
    go (not_below l e) (same k f) (not_below m g) (same n h) = level (k, n) (rw (e, f, g))
    go (not_below l e) (same k f) (not_below m g) (apart n h) = after (inr (sym k, omega arith)) (rw (e, f, g))
    go (not_below l e) (apart k f) g h = after (inl (omega arith)) (rw (e, f))

-- ---- insert
pub in_insert : (r : Row) (rs : List Row) (x : Row) → In x (insert r rs) → (x ≡ r) ⊎ In x rs
unfolding insert
in_insert r [] x i = where_in i
in_insert r (y ∷ ys) x i = go (before r y) i (in_insert r ys x)
  where
    go : (b : Bool) → In x (cond b (r ∷ y ∷ ys) (y ∷ insert r ys)) → (In x (insert r ys) → (x ≡ r) ⊎ In x ys) →
        (x ≡ r) ⊎ In x (y ∷ ys)
    go true j ih = where_in j
    go false j ih = ⊎_elim
        (λ e. inr (Memᴰ.head e))
        (λ k. ⊎_elim (λ e. inl e) (λ l. inr (there l)) (ih k))
        (where_in j)

-- An insertion keeps rows rising, unless the key is there.
pub rising_insert : (r : Row) (rs : List Row) → RowsRise rs → find rs r.from r.terminal ≡ none →
    RowsRise (insert r rs)
unfolding insert find
rising_insert r [] h e = rows_cons (λ x i. absurd (nowhere i)) rows_nil
rising_insert r (y ∷ ys) (rows_cons h s) e =
    go (order? r y) (is_for y r.from r.terminal) refl e (rising_insert r ys s)
  where
    f : Option Row
    f = find ys r.from r.terminal

    with_r : Before r y → (x : Row) → In x (y ∷ ys) → Before r x
    with_r p x i = ⊎_elim (λ k. subst (λ (z : Row). Before r z) (sym k) p)
        (λ j. before_trans r y x p (h x j)) (where_in i)

    with_y : Before y r → (x : Row) → In x (insert r ys) → Before y x
    with_y p x i = ⊎_elim (λ k. subst (λ (z : Row). Before y z) (sym k) p) (λ j. h x j) (in_insert r ys x i)

    taken : (r.from ≡ y.from) × (r.terminal ≡ y.terminal) → is_for y r.from r.terminal ≡ true
    taken p = rw (p.0, p.1) (is_for_self y)

    go : Order r y (before r y) → (b : Bool) → is_for y r.from r.terminal ≡ b → cond b (some y) f ≡ none →
        (f ≡ none → RowsRise (insert r ys)) → RowsRise (cond (before r y) (r ∷ y ∷ ys) (y ∷ insert r ys))
    go o true k l ih = absurd (never (sym l))
    go (first p q) false k l ih = rw q (rows_cons {r = r} {rs = y ∷ ys} (with_r p) (rows_cons h s))
    go (after p q) false k l ih = rw q (rows_cons {r = y} {rs = insert r ys} (with_y p) (ih l))
    go (level p q) false k l ih = absurd (false≢true (sym k ∙ taken p))

-- ---- a part of rising rows
pub before_last : (D : List Row) (r : Row) (rest : List Row) → RowsRise (D ++ r ∷ rest) →
    (x : Row) → In x D → Before x r
before_last [] r rest h x i = absurd (nowhere i)
before_last (d ∷ D) r rest (rows_cons h k) x i = ⊎_elim
    (λ e. subst (λ (z : Row). Before z r) (sym e) (h r (Memᴰ.append_right D here)))
    (λ j. before_last D r rest k x j)
    (where_in i)

pub after_last : (D : List Row) (r : Row) (rest : List Row) → RowsRise (D ++ r ∷ rest) →
    (x : Row) → In x rest → Before r x
after_last [] r rest (rows_cons h k) x i = h x i
after_last (d ∷ D) r rest (rows_cons h k) x i = after_last D r rest k x i

pub rising_front : (D rest : List Row) → RowsRise (D ++ rest) → RowsRise D
rising_front [] rest h = rows_nil
rising_front (d ∷ D) rest (rows_cons h k) =
    rows_cons (λ x i. h x (Memᴰ.append_left rest i)) (rising_front D rest k)
