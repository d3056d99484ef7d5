-- The rows of a head in the table of some marks: those from its place, and those into it.
-- Assumes for the rows into it marks (`Marks`) of a table whose rows climb (`shape` does not refuse).
use mathlib.Core.Path.{◌≡◌, refl, sym, ◌∙◌, ap, ap₂, subst}
use mathlib.Core.Logic.{◌⊎◌, inl, inr}
use mathlib.Core.Bool.{Bool, true, false, cond}
use mathlib.Core.List.{List, [], ◌∷◌, ◌++◌, map, append-nil}
use Prim.Native.Nat.{ℕ, ◌<◌}
use native.Mathlib.Omega.{arith}
use lib.Dec.{eqb}
use borrow.Author.Tests.{eq-eqb, ne_eqb}
use Rattle.laws.proofs.Members.{In, here, there, nowhere, where_in}
use Rattle.paper.specs.declared.Mode.{Mode}
use Rattle.paper.specs.Rows.{Row, Table}
use Rattle.paper.specs.Checks.{shape}
use Rattle.paper.specs.Shrink.{production_of, rows_of, redirect}
use Rattle.merging.specs.Numbers.{Ascending, asc_cons}
use Rattle.merging.specs.Marks.{
  head_of,
  source_of,
  heads_of,
  place_of,
  place_among,
  marked_row,
  marked_rows,
  Marks,
}
use Rattle.merging.proofs.States.{rows_of_state}
use Rattle.merging.proofs.Places.{place_inj}
use Rattle.merging.proofs.Shrunk.{head_is_head, head_production}
use Rattle.merging.proofs.Output.{in_marked}

rows_append : (xs ys : List Row) (s : ℕ) → rows_of (xs ++ ys) s ≡ rows_of xs s ++ rows_of ys s
unfolding rows_of
rows_append [] ys s = refl
rows_append (x ∷ xs) ys s = go (eqb x.from s) (rows_append xs ys s)
  where
    o : ℕ × ℕ
    o = (x.terminal, x.to)

    go : (b : Bool) → rows_of (xs ++ ys) s ≡ rows_of xs s ++ rows_of ys s →
        cond b (o ∷ rows_of (xs ++ ys) s) (rows_of (xs ++ ys) s)
        ≡ cond b (o ∷ rows_of xs s) (rows_of xs s) ++ rows_of ys s
    go true ih = ap (λ (l : List (ℕ × ℕ)). o ∷ l) ih
    go false ih = ih

-- ---- from a head

module _ (mark : ℕ → ℕ) (t : Table) (hs : List ℕ) where
  -- a row's to, by places
  abbrev to_place : ℕ → ℕ
  to_place s = place_among hs (head_of mark t s)

  rows_here : (s : ℕ) (os : List (ℕ × ℕ)) →
      rows_of (map (marked_row mark t hs s) os) (place_among hs s) ≡ redirect to_place os
  unfolding rows_of marked_row redirect
  rows_here s [] = refl
  rows_here s (o ∷ os) =
      rw (eq-eqb (place_among hs s) (place_among hs s) refl)
      (ap (λ (l : List (ℕ × ℕ)). (o.0, to_place o.1) ∷ l) (rows_here s os))

  rows_off : (s x : ℕ) (os : List (ℕ × ℕ)) → (place_among hs s ≡ x → ⊥) →
      rows_of (map (marked_row mark t hs s) os) x ≡ []
  unfolding rows_of marked_row
  rows_off s x [] off = refl
  rows_off s x (o ∷ os) off = rw (ne_eqb (place_among hs s) x off) (rows_off s x os off)

  rows_off_all : (xs : List ℕ) (x : ℕ) → ((s : ℕ) → In s xs → place_among hs s ≡ x → ⊥) →
      rows_of (marked_rows mark t hs xs) x ≡ []
  unfolding marked_rows rows_of
  rows_off_all [] x off = refl
  rows_off_all (s ∷ xs) x off =
      rows_append (map (marked_row mark t hs s) (rows_of t.rows (source_of mark t s))) (marked_rows mark t hs xs) x
      ∙ ap₂ (λ (a b : List (ℕ × ℕ)). a ++ b)
      (rows_off s x (rows_of t.rows (source_of mark t s)) (off s here))
      (rows_off_all xs x (λ y i. off y (there i)))

  pub rows_marked : (xs : List ℕ) → Ascending xs → ((x : ℕ) → In x xs → In x hs) → (s : ℕ) → In s xs →
      rows_of (marked_rows mark t hs xs) (place_among hs s)
      ≡ redirect to_place (rows_of t.rows (source_of mark t s))
  unfolding marked_rows
  rows_marked [] asc sub s i = absurd (nowhere i)
  rows_marked (x ∷ xs) (asc_cons l asc) sub s i =
      go (where_in i) (λ j. rows_marked xs asc (λ y k. sub y (there k)) s j)
    where
      own : List Row
      own = map (marked_row mark t hs x) (rows_of t.rows (source_of mark t x))

      rest : List Row
      rest = marked_rows mark t hs xs

      off : (y : ℕ) → In y xs → place_among hs y ≡ place_among hs x → ⊥
      off y j e =
          let less : x < y = l y j in
          omega (arith, less, place_inj hs y x (sub y (there j)) (sub x here) e)

      Has : ℕ → Type 0
      Has y = rows_of (own ++ rest) (place_among hs y)
          ≡ redirect to_place (rows_of t.rows (source_of mark t y))

      go : (s ≡ x) ⊎ In s xs →
          (In s xs → rows_of rest (place_among hs s) ≡ redirect to_place (rows_of t.rows (source_of mark t s))) →
          Has s
      go (inl e) ih = subst Has (sym e)
          (rows_append own rest (place_among hs x)
          ∙ ap₂ (λ (a b : List (ℕ × ℕ)). a ++ b)
          (rows_here x (rows_of t.rows (source_of mark t x)))
          (rows_off_all xs (place_among hs x) off)
          ∙ append-nil _)
      go (inr j) ih =
          rows_append own rest (place_among hs s)
          ∙ ap₂ (λ (a b : List (ℕ × ℕ)). a ++ b)
          (rows_off x (place_among hs s) (rows_of t.rows (source_of mark t x)) (λ e. off s j (sym e)))
          (ih j)

-- ---- into a head

module _ (mode : Mode) (t : Table) (climbs : shape t ≡ false) (mark : ℕ → ℕ) (k : Marks mode t mark) where
  abbrev hs : List ℕ
  hs = heads_of mark t

  -- rows into a head's place carry the head's production
  pub into_head : (x : ℕ) → In x hs → (r : Row) → In r (marked_rows mark t hs hs) → r.to ≡ place_among hs x →
      r.production ≡ production_of t.prod0 t.rows x
  unfolding marked_row
  into_head x i r j e =
      let (s, l, o, m, f) = in_marked mark t hs hs r j in
      let state = rows_of_state t.rows (source_of mark t s) o m in
      let to : place_of mark t o.1 ≡ place_among hs x = ap (λ (z : Row). z.to) (sym f) ∙ e in
      let same : head_of mark t o.1 ≡ x =
      place_inj hs (head_of mark t o.1) x (head_is_head mode t climbs mark k o.1 state) i to in
      ap (λ (z : Row). z.production) f ∙ sym (head_production mode t climbs mark k o.1 state)
      ∙ ap (production_of t.prod0 t.rows) same
