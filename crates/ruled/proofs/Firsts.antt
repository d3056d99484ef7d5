-- The first row into a state: row by row, and what it is.
-- Assumes nothing.
use mathlib.Core.Path.{◌≡◌, refl, sym, ap, ◌∙◌}
use mathlib.Core.Bool.{Bool, true, false, cond, not, ◌||◌}
use mathlib.Core.Option.{Option}
use mathlib.Core.List.{List, [], ◌∷◌}
use Prim.Native.Nat.{ℕ, zero, suc, ◌+◌, ◌*◌, ◌/◌, ◌<◌}
use native.Mathlib.Omega.{arith}
use native.Mathlib.Numerals.{add-one}
use borrow.Author.Tests.{eq-eqb, ne_eqb}
use lib.Dec.{eqb, eqb-suc-zero}
use lib.ListN.{length, set}
use lib.IntN.{ℤ}
use Rattle.paper.specs.Rows.{Row, rows_in}
use Rattle.paper.specs.Checks.{any}
use Rattle.paper.specs.Shrink.{production_of}
use Rattle.rows.specs.Places.{row_at, rest}
use Rattle.rows.proofs.Rest.{rest_cons, rest_end}
use Rattle.ruled.specs.Into.{into_from, leads}
use Rattle.counts.specs.Arrays.{Holds}
use Rattle.counts.proofs.Arrays.{by_equal, holds_set}

module _ (ns : List ℤ) (i s : ℕ) where
  into_cons : i * 4 + 3 < length ns
      → into_from i (rest ns i) s ≡ cond (eqb (row_at ns i).to s) (suc i) (into_from (i + 1) (rest ns (i + 1)) s)
  unfolding into_from
  into_cons h =
      ap (λ (rs : List Row). into_from i rs s) (rest_cons ns i h)
      ∙ ap (λ (m : ℕ). cond (eqb (row_at ns i).to s) (suc i) (into_from m (rest ns (i + 1)) s)) (sym (add-one i))

  -- row i leads into s
  pub into_here : i * 4 + 3 < length ns → (row_at ns i).to ≡ s → into_from i (rest ns i) s ≡ suc i
  into_here h e =
      into_cons h
      ∙ ap (λ (b : Bool). cond b (suc i) (into_from (i + 1) (rest ns (i + 1)) s)) (eq-eqb (row_at ns i).to s e)

  -- it does not
  pub into_other : i * 4 + 3 < length ns → ((row_at ns i).to ≡ s → ⊥)
      → into_from i (rest ns i) s ≡ into_from (i + 1) (rest ns (i + 1)) s
  into_other h e =
      into_cons h
      ∙ ap (λ (b : Bool). cond b (suc i) (into_from (i + 1) (rest ns (i + 1)) s)) (ne_eqb (row_at ns i).to s e)

  pub into_end : length ns < i * 4 + 4 → into_from i (rest ns i) s ≡ 0
  unfolding into_from
  into_end h = ap (λ (rs : List Row). into_from i rs s) (rest_end ns i h)

-- one row more, taken before those that are marked: its state is marked anew
pub mark_row : (ns : List ℤ) (into : List ℕ) (i k t : ℕ) → i + 1 ≡ k → i * 4 + 3 < length ns
    → Holds (into_from k (rest ns k)) into → t ≡ (row_at ns i).to → t < 1024
    → Holds (into_from i (rest ns i)) (set into t k)
mark_row ns into i k t e l h q b = holds_set t k h b
    (into_here ns i t l (sym q) ∙ sym (add-one i) ∙ e)
    (λ s d. into_other ns i s l (λ (x : (row_at ns i).to ≡ s). d (q ∙ x))
    ∙ ap (λ (m : ℕ). into_from m (rest ns m) s) e)

unmarked : (i s : ℕ) (rs : List Row) → eqb (into_from i rs s) 0 ≡ not (any (leads s) rs)
unfolding into_from any
unmarked i s [] = refl
unmarked i s (r ∷ rs) = go (leads s r) (unmarked (suc i) s rs)
  where
    go : (b : Bool) → eqb (into_from (suc i) rs s) 0 ≡ not (any (leads s) rs)
        → eqb (cond b (suc i) (into_from (suc i) rs s)) 0 ≡ not (b || any (leads s) rs)
    go true e = eqb-suc-zero i
    go false e = e

-- the mark is 0 exactly where no row leads into the state
pub into_any : (ns : List ℤ) (s : ℕ) → eqb (into_from 0 (rows_in ns) s) 0 ≡ not (any (leads s) (rows_in ns))
into_any ns s = unmarked 0 s (rows_in ns)

-- Row j is the first into s.
pub record First (ns : List ℤ) (s j : ℕ) : Type 0 where
  pub there : j * 4 + 3 < length ns
  pub leads : (row_at ns j).to ≡ s
  pub gives : (p : Option ℕ) → production_of p (rows_in ns) s ≡ (row_at ns j).production

production_cons : (p : Option ℕ) (ns : List ℤ) (i s : ℕ) → i * 4 + 3 < length ns → production_of p (rest ns i) s
    ≡ cond (eqb (row_at ns i).to s) (row_at ns i).production (production_of p (rest ns (i + 1)) s)
unfolding production_of
production_cons p ns i s h = ap (λ (rs : List Row). production_of p rs s) (rest_cons ns i h)

-- where the rows from i on, d of them, are marked with row j
first_from : (ns : List ℤ) (s j d i : ℕ) → i + d ≡ length ns / 4 → into_from i (rest ns i) s ≡ suc j
    → (j * 4 + 3 < length ns) × ((row_at ns j).to ≡ s)
    × ((p : Option ℕ) → production_of p (rest ns i) s ≡ (row_at ns j).production)
first_from ns s j zero i h e = absurd (omega (arith, into_end ns i s (omega arith)))
first_from ns s j (suc d) i h e = by_equal (row_at ns i).to s
    (λ (q : (row_at ns i).to ≡ s).
    let k : i ≡ j = omega (arith, into_here ns i s (omega arith) q) in (
      omega arith,
      rw (← k) q,
      λ p. rw (← k) (production_cons p ns i s (omega arith)
          ∙ ap (λ (b : Bool). cond b (row_at ns i).production (production_of p (rest ns (i + 1)) s))
          (eq-eqb (row_at ns i).to s q)),
    ))
    (λ (q : (row_at ns i).to ≡ s → ⊥).
    let r = first_from ns s j d (i + 1) (omega arith) (sym (into_other ns i s (omega arith) q) ∙ e) in (
      r.0,
      r.1,
      λ p. production_cons p ns i s (omega arith)
          ∙ ap (λ (b : Bool). cond b (row_at ns i).production (production_of p (rest ns (i + 1)) s))
          (ne_eqb (row_at ns i).to s q)
          ∙ r.2 p,
    ))

-- the mark suc j is that of row j
pub into_row : (ns : List ℤ) (s j : ℕ) → into_from 0 (rows_in ns) s ≡ suc j → First ns s j
into_row ns s j e =
    let r = first_from ns s j (length ns / 4) 0 (omega arith) e in
    record { there = r.0; leads = r.1; gives = r.2 }
