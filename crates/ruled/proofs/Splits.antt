-- SPLIT by the first row into each state: a row's production is not that of the first row into its state.
-- Assumes nothing.
use mathlib.Core.Path.{◌≡◌, refl, sym, ap, ◌∙◌}
use mathlib.Core.Bool.{Bool, true, false, not, ◌&&◌, false≢true}
use mathlib.Core.Option.{Option, none}
use mathlib.Core.List.{List}
use Prim.Native.Nat.{ℕ, zero, suc, ◌+◌, ◌-◌, ◌*◌, ◌<◌, ◌≤◌}
use native.Mathlib.Omega.{arith}
use borrow.Author.Tests.{eq-eqb, eqb-true, not-true, not-false}
use lib.Dec.{eqb}
use lib.ListN.{length, get_or}
use lib.IntN.{ℤ}
use Rattle.paper.specs.Rows.{Row, rows_in}
use Rattle.paper.specs.Checks.{any, same_production, split}
use Rattle.paper.specs.Shrink.{production_of}
use Rattle.laws.proofs.Productions.{same_production_eq, same_production_refl}
use Rattle.rows.specs.Places.{row_at, bare}
use Rattle.rows.proofs.Rest.{both, by_test}
use Rattle.ruled.specs.Into.{into_from, Marked, leads, differs}
use Rattle.counts.specs.Arrays.{Fitting}
use Rattle.counts.proofs.Arrays.{bound}
use Rattle.ruled.proofs.Firsts.{First, into_any, into_row}
use Rattle.ruled.proofs.Somewhere.{same_test, any_place, place_any}

same_as : (p q : Option ℕ) → p ≡ q → same_production p q ≡ true
same_as p q e = rw e (same_production_refl q)

-- the first row into the state that row i leads into
pub first_of : (ns : List ℤ) (i : ℕ) → i * 4 + 3 < length ns → (n : ℕ) → n ≡ into_from 0 (rows_in ns) (row_at ns i).to
    → (1 ≤ n) × First ns (row_at ns i).to (n - 1)
first_of ns i h zero e =
    let s = (row_at ns i).to in
    let a : any (leads s) (rows_in ns) ≡ true =
    place_any (leads s) ns (record { at = i; there = h; passes = eq-eqb s s refl }) in
    let b : eqb (into_from 0 (rows_in ns) s) 0 ≡ true = eq-eqb (into_from 0 (rows_in ns) s) 0 (sym e) in
    absurd (false≢true (sym (ap not a) ∙ sym (into_any ns s) ∙ b))
first_of ns i h (suc n) e =
    let k : suc n - 1 ≡ n = omega arith in
    (omega arith, rw k (into_row ns (row_at ns i).to n (sym e)))

-- what the array says of it
pub first_read : (ns : List ℤ) (into : List ℕ) (i t n : ℕ) → Fitting ns → Marked ns into → i * 4 + 3 < length ns
    → t ≡ (row_at ns i).to → n ≡ get_or into t 0 → (1 ≤ n) × First ns (row_at ns i).to (n - 1)
first_read ns into i t n b m h e d =
    let l : t < 1024 = omega (arith, (bound b i h).to) in
    first_of ns i h n (d ∙ m.held t l ∙ ap (into_from 0 (rows_in ns)) e)

-- two rows into one state with two productions
abbrev apart : Row → Row → Bool
apart r x = eqb x.to r.to && not (same_production x.production r.production)

module _ (ns : List ℤ) where
  -- a row that does not differ has the production of its state
  agrees : (i : ℕ) → differs (rows_in ns) (row_at ns i) ≡ false
      → (row_at ns i).production ≡ production_of none (rows_in ns) (row_at ns i).to
  agrees i e = same_production_eq (row_at ns i).production (production_of none (rows_in ns) (row_at ns i).to) (not-false _ e)

  -- of two rows apart, one differs
  one_differs : (i j : ℕ) → i * 4 + 3 < length ns → j * 4 + 3 < length ns → apart (row_at ns i) (row_at ns j) ≡ true
      → any (differs (rows_in ns)) (rows_in ns) ≡ true
  one_differs i j h k e =
      let r = row_at ns i in
      let x = row_at ns j in
      let b = both (eqb x.to r.to) (not (same_production x.production r.production)) e in
      by_test (differs (rows_in ns) r)
      (λ d. place_any (differs (rows_in ns)) ns (record { at = i; there = h; passes = d }))
      (λ d. by_test (differs (rows_in ns) x)
      (λ f. place_any (differs (rows_in ns)) ns (record { at = j; there = k; passes = f }))
      (λ f.
      let q : x.production ≡ r.production =
      agrees j f
      ∙ ap (production_of none (rows_in ns)) (eqb-true x.to r.to b.0)
      ∙ sym (agrees i d) in
      absurd (false≢true (sym (not-true _ b.1) ∙ same_as x.production r.production q))))

  -- a row that differs is apart from the first into its state
  first_apart : (i : ℕ) → i * 4 + 3 < length ns → differs (rows_in ns) (row_at ns i) ≡ true
      → any (apart (row_at ns i)) (rows_in ns) ≡ true
  first_apart i h e =
      let r = row_at ns i in
      let f = (first_of ns i h (into_from 0 (rows_in ns) r.to) refl).1 in
      let j = into_from 0 (rows_in ns) r.to - 1 in
      let x = row_at ns j in
      let t : eqb x.to r.to ≡ true = eq-eqb x.to r.to f.leads in
      let b = same_production x.production r.production in
      let d : b ≡ false = by_test b
      (λ s. absurd (false≢true (sym (not-true _ e)
      ∙ same_as r.production (production_of none (rows_in ns) r.to)
      (sym (same_production_eq x.production r.production s) ∙ sym (f.gives none)))))
      (λ s. s) in
      place_any (apart r) ns (record { at = j; there = f.there; passes = rw (t, d) })

  pub split_first : split (bare ns) ≡ any (differs (rows_in ns)) (rows_in ns)
  unfolding split
  split_first = same_test
      (any (λ r. any (apart r) (rows_in ns)) (rows_in ns))
      (any (differs (rows_in ns)) (rows_in ns))
      (λ e.
      let r = any_place (λ r. any (apart r) (rows_in ns)) ns e in
      let x = any_place (apart (row_at ns r.at)) ns r.passes in
      one_differs r.at x.at r.there x.there x.passes)
      (λ e.
      let r = any_place (differs (rows_in ns)) ns e in
      place_any (λ r. any (apart r) (rows_in ns)) ns
      (record { at = r.at; there = r.there; passes = first_apart r.at r.there r.passes }))

-- the test of row i, by its production and that of the row that marks its state
pub differs_mark : (ns : List ℤ) (i n : ℕ) (p q : Option ℕ) → First ns (row_at ns i).to n
    → p ≡ (row_at ns i).production → q ≡ (row_at ns n).production
    → not (same_production p q) ≡ differs (rows_in ns) (row_at ns i)
differs_mark ns i n p q f e d = ap not (rw (e, d) (ap (same_production (row_at ns i).production) (sym (f.gives none))))
