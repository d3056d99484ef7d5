-- The rows of the table of some marks: they rise, are in range, and no more than the table's; nor are the states.
-- Assumes marks (`Marks`) of a table whose rows climb, and rise or are in range where a law says so.
use mathlib.Core.Path.{◌≡◌, refl, sym, ◌∙◌, ap, ap₂, subst}
use mathlib.Core.Logic.{⊎_elim, inl, inr}
use mathlib.Core.Bool.{cond}
use mathlib.Core.List.Memᴰ
use mathlib.Core.List.{List, [], ◌∷◌, map}
use Prim.Native.Nat.{ℕ, suc, ◌+◌, ◌≤◌, ◌<◌}
use native.Mathlib.Omega.{arith}
use lib.ListN.{length, length-append, length-map}
use lib.Dec.{eqb}
use borrow.Author.Tests.{ne_eqb}
use Rattle.laws.proofs.Tests.{Test, same, apart, test}
use Rattle.laws.proofs.Members.{In, here, there, nowhere, map_in}
use Rattle.laws.proofs.RowsRise.{Before, RowsRise, rows_nil, rows_cons, rise_append}
use Rattle.paper.specs.Rows.{Row, Table}
use Rattle.paper.specs.Shrink.{rows_of}
use Rattle.merging.specs.Numbers.{Ascending, asc_cons}
use Rattle.merging.specs.Marks.{source_of, place_among, marked_row, marked_rows}
use Rattle.merging.proofs.Places.{place_lt}
use Rattle.merging.proofs.States.{rows_of_in}

-- ---- which rows there are

module _ (mark : ℕ → ℕ) (t : Table) (hs : List ℕ) where
  abbrev h : ℕ → ℕ
  h s = source_of mark t s

  pub in_marked : (xs : List ℕ) (r : Row) → In r (marked_rows mark t hs xs) →
      (s : ℕ) × In s xs × (o : ℕ × ℕ) × In o (rows_of t.rows (h s)) × (r ≡ marked_row mark t hs s o)
  unfolding marked_rows
  in_marked [] r i = absurd (nowhere i)
  in_marked (x ∷ xs) r i = ⊎_elim
      (λ j. let (o, l, e) = map_in (marked_row mark t hs x) (rows_of t.rows (h x)) r j in (x, here, o, l, e))
      (λ j. let (s, k, o, l, e) = in_marked xs r j in (s, there k, o, l, e))
      (Memᴰ.append_cases (map (marked_row mark t hs x) (rows_of t.rows (h x))) i)

-- ---- they rise

data TermsRise : List (ℕ × ℕ) → Type 0 where
  terms_nil : TermsRise []
  terms_cons : {o : ℕ × ℕ} {os : List (ℕ × ℕ)} → ((p : ℕ × ℕ) → In p os → o.0 < p.0) → TermsRise os →
      TermsRise (o ∷ os)

rows_of_rise : (rs : List Row) (s : ℕ) → RowsRise rs → TermsRise (rows_of rs s)
unfolding rows_of
rows_of_rise [] s a = terms_nil
rows_of_rise (r ∷ rs) s (rows_cons k a) = go (test r.from s) (rows_of_rise rs s a)
  where
    first : r.from ≡ s → (p : ℕ × ℕ) → In p (rows_of rs s) → r.terminal < p.0
    first l p i =
        let (x, j, e, f) = rows_of_in rs s p i in
        ⊎_elim
        (λ z. absurd (omega (arith, z, e, l)))
        (λ z. omega (arith, z.1, ap (λ (q : ℕ × ℕ). q.0) f))
        (k x j)

    go : Test r.from s (eqb r.from s) → TermsRise (rows_of rs s) →
        TermsRise (cond (eqb r.from s) ((r.terminal, r.to) ∷ rows_of rs s) (rows_of rs s))
    go (same l e) ih = rw e (terms_cons {o = (r.terminal, r.to)} {os = rows_of rs s} (first l) ih)
    go (apart l e) ih = rw e ih

module _ (mark : ℕ → ℕ) (t : Table) (hs : List ℕ) where
  state_rise : (s : ℕ) (os : List (ℕ × ℕ)) → TermsRise os → RowsRise (map (marked_row mark t hs s) os)
  unfolding marked_row
  state_rise s [] a = rows_nil
  state_rise s (o ∷ os) (terms_cons k a) = rows_cons
      (λ x i.
      let (p, j, e) = map_in (marked_row mark t hs s) os x i in
      subst (λ (z : Row). Before (marked_row mark t hs s o) z) (sym e) (inr (refl, k p j)))
      (state_rise s os a)

  pub marked_rise : RowsRise t.rows → (xs : List ℕ) → Ascending xs → ((x : ℕ) → In x xs → In x hs) →
      RowsRise (marked_rows mark t hs xs)
  unfolding marked_rows marked_row
  marked_rise a [] asc sub = rows_nil
  marked_rise a (x ∷ xs) (asc_cons l asc) sub = rise_append
      (map (marked_row mark t hs x) (rows_of t.rows (h mark t hs x)))
      (marked_rows mark t hs xs)
      (state_rise x (rows_of t.rows (h mark t hs x)) (rows_of_rise t.rows (h mark t hs x) a))
      (marked_rise a xs asc (λ y i. sub y (there i)))
      (λ y z i j.
      let (o, _, e) = map_in (marked_row mark t hs x) (rows_of t.rows (h mark t hs x)) y i in
      let (s, k, p, _, f) = in_marked mark t hs xs z j in
      let from_y : y.from ≡ place_among hs x = ap (λ (w : Row). w.from) e in
      let from_z : z.from ≡ place_among hs s = ap (λ (w : Row). w.from) f in
      inl (omega (arith, from_y, from_z, place_lt hs x s (sub x here) (l s k))))

-- ---- how many there are

-- different numbers
data Different : List ℕ → Type 0 where
  different_nil : Different []
  different_cons : {x : ℕ} {xs : List ℕ} → ((y : ℕ) → In y xs → x ≡ y → ⊥) → Different xs → Different (x ∷ xs)

-- the rows that leave some states
leaving_all : List Row → List ℕ → ℕ
leaving_all rs [] = 0
leaving_all rs (s ∷ ss) = length (rows_of rs s) + leaving_all rs ss

leaving_nil : (ss : List ℕ) → leaving_all [] ss ≡ 0
unfolding leaving_all rows_of
leaving_nil [] = refl
leaving_nil (s ∷ ss) = omega (arith, leaving_nil ss)

leaving_off : (r : Row) (rs : List Row) (ss : List ℕ) → ((s : ℕ) → In s ss → r.from ≡ s → ⊥) →
    leaving_all (r ∷ rs) ss ≡ leaving_all rs ss
unfolding leaving_all rows_of
leaving_off r rs [] off = refl
leaving_off r rs (s ∷ ss) off =
    rw (ne_eqb r.from s (off s here))
    (ap (λ (n : ℕ). length (rows_of rs s) + n) (leaving_off r rs ss (λ x i. off x (there i))))

leaving_more : (r : Row) (rs : List Row) (ss : List ℕ) → Different ss →
    leaving_all (r ∷ rs) ss ≤ suc (leaving_all rs ss)
unfolding leaving_all rows_of
leaving_more r rs [] d = omega arith
leaving_more r rs (s ∷ ss) (different_cons k d) = go (test r.from s) (leaving_more r rs ss d)
  where
    go : Test r.from s (eqb r.from s) → leaving_all (r ∷ rs) ss ≤ suc (leaving_all rs ss) →
        length (cond (eqb r.from s) ((r.terminal, r.to) ∷ rows_of rs s) (rows_of rs s)) + leaving_all (r ∷ rs) ss
        ≤ suc (length (rows_of rs s) + leaving_all rs ss)
    go (same l e) ih = rw e (omega (arith, leaving_off r rs ss (λ x i z. k x i (sym l ∙ z))))
    go (apart l e) ih = rw e (omega arith)

leaving_le : (rs : List Row) (ss : List ℕ) → Different ss → leaving_all rs ss ≤ length rs
leaving_le [] ss d = omega (arith, leaving_nil ss)
leaving_le (r ∷ rs) ss d = omega (arith, leaving_more r rs ss d, leaving_le rs ss d)

module _ (mark : ℕ → ℕ) (t : Table) (hs : List ℕ) where
  length_marked : (xs : List ℕ) → length (marked_rows mark t hs xs) ≡ leaving_all t.rows (map (h mark t hs) xs)
  unfolding marked_rows leaving_all
  length_marked [] = refl
  length_marked (x ∷ xs) =
      length-append (map (marked_row mark t hs x) (rows_of t.rows (h mark t hs x))) (marked_rows mark t hs xs)
      ∙ ap₂ ◌+◌ (length-map (rows_of t.rows (h mark t hs x)) (marked_row mark t hs x)) (length_marked xs)

  -- the highest states of different marks are different
  highs_different : (xs : List ℕ) → Ascending xs →
      ((x y : ℕ) → In x xs → In y xs → h mark t hs x ≡ h mark t hs y → x ≡ y) → Different (map (h mark t hs) xs)
  highs_different [] asc inj = different_nil
  highs_different (x ∷ xs) (asc_cons l asc) inj = different_cons
      (λ y i e.
      let (z, j, f) = map_in (h mark t hs) xs y i in
      let eq : x ≡ z = inj x z here (there j) (e ∙ f) in
      let less : x < z = l z j in
      omega (arith, eq, less))
      (highs_different xs asc (λ y z i j. inj y z (there i) (there j)))

  pub marked_length : (xs : List ℕ) → Ascending xs →
      ((x y : ℕ) → In x xs → In y xs → h mark t hs x ≡ h mark t hs y → x ≡ y) →
      length (marked_rows mark t hs xs) ≤ length t.rows
  marked_length xs asc inj =
      omega (arith, length_marked xs, leaving_le t.rows (map (h mark t hs) xs) (highs_different xs asc inj))
