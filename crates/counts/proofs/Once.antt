-- The rows into each state counted from the last row to the first, and TREE by the counts.
-- Assumes nothing.
use mathlib.Core.Path.{◌≡◌, refl, sym, ap, ◌∙◌}
use mathlib.Core.Bool.{Bool, true, false, cond, not, ◌&&◌}
use mathlib.Core.List.{List, [], ◌∷◌}
use Prim.Native.Nat.{ℕ, zero, suc, ◌+◌, ◌-◌, ◌*◌, ◌/◌, ◌<◌, ◌≤◌}
use native.Mathlib.Omega.{arith}
use native.Mathlib.Numerals.{add-one}
use borrow.Author.Tests.{eq-eqb, ne_eqb}
use lib.Dec.{eqb}
use lib.ListN.{length, get_or, set, drop, length-drop}
use lib.IntN.{ℤ}
use Rattle.paper.specs.Rows.{Row, rows_in}
use Rattle.paper.specs.Checks.{rows_into, each_once, no_tree}
use Rattle.rows.specs.Places.{row_at, rest, bare}
use Rattle.rows.proofs.Rest.{length_rows}
use Rattle.rows.proofs.Counted.{Counts, count_yes, count_no, count_end}
use Rattle.counts.specs.Arrays.{Fitting, Holds}
use Rattle.counts.specs.Counts.{Counted}
use Rattle.counts.proofs.Arrays.{bound, holds_set}

pub into_counts : (s : ℕ) → Counts (λ r. eqb r.to s) (λ rs. rows_into rs s)
unfolding rows_into
into_counts s = record { zero_rows = refl; one_row = λ r rs. refl }

-- no more rows lead into a state than there are
into_le : (s : ℕ) (rs : List Row) → rows_into rs s ≤ length rs
unfolding rows_into
into_le s [] = omega arith
into_le s (r ∷ rs) = go (eqb r.to s) (into_le s rs)
  where
    go : (b : Bool) → rows_into rs s ≤ length rs → cond b (suc (rows_into rs s)) (rows_into rs s) ≤ suc (length rs)
    go true h = omega arith
    go false h = omega arith

module _ (ns : List ℤ) where
  -- a count of rows from i on stays small
  pub count_le : (i s : ℕ) → rows_into (rest ns i) s ≤ length ns / 4
  count_le i s = omega (arith, into_le s (rest ns i), length_rows (drop (i * 4) ns), length-drop (i * 4) ns)

  -- one row more, taken before those that are counted
  pub count_row : (counts : List ℕ) (i k t : ℕ) → i + 1 ≡ k → i * 4 + 3 < length ns
      → Holds (rows_into (rest ns k)) counts → t ≡ (row_at ns i).to → t < 1024
      → Holds (rows_into (rest ns i)) (set counts t (get_or counts t 0 + 1))
  count_row counts i k t e l h q b = holds_set t (get_or counts t 0 + 1) h b
      (count_yes (into_counts t) ns i l (eq-eqb _ _ (sym q))
      ∙ ap (λ (m : ℕ). suc (rows_into (rest ns m) t)) e
      ∙ ap suc (sym (h.held t b)) ∙ sym (add-one (get_or counts t 0)))
      (λ s d. count_no (into_counts s) ns i l (ne_eqb _ _ (λ (x : (row_at ns i).to ≡ s). d (q ∙ x)))
      ∙ ap (λ (m : ℕ). rows_into (rest ns m) s) e)

  pub count_none : (s : ℕ) → rows_into (rest ns (length ns / 4)) s ≡ 0
  count_none s = count_end (into_counts s) ns (length ns / 4) (omega arith)

  -- no row leads into a state past the last
  into_past : Fitting ns → (s : ℕ) → 1023 < s → (d i : ℕ) → i + d ≡ length ns / 4 → rows_into (rest ns i) s ≡ 0
  into_past b s h zero i e = count_end (into_counts s) ns i (omega arith)
  into_past b s h (suc d) i e =
      count_no (into_counts s) ns i (omega arith)
      (ne_eqb _ _ (λ (x : (row_at ns i).to ≡ s). omega (arith, (bound b i (omega arith)).to)))
      ∙ into_past b s h d (i + 1) (omega arith)

-- the test of a state and of those below it
once_top : (rs : List Row) (n k : ℕ) (b : Bool) → k ≡ suc n → eqb (rows_into rs k) 1 ≡ b
    → each_once rs k ≡ (b && each_once rs n)
unfolding each_once
once_top rs n k b e d =
    ap (each_once rs) e ∙ ap (λ (t : Bool). t && each_once rs n) (ap (λ (m : ℕ). eqb (rows_into rs m) 1) (sym e) ∙ d)

module _ (ns : List ℤ) (counts : List ℕ) (c : Counted ns counts) (i : ℕ) (h : i < 1024) (p : 0 < i) where
  as_suc : i ≡ suc (i - 1)
  as_suc = omega arith

  pub once_next : get_or counts i 0 ≡ 1 → each_once (rows_in ns) i ≡ each_once (rows_in ns) (i - 1)
  once_next e = once_top (rows_in ns) (i - 1) i true as_suc (eq-eqb _ _ (sym (c.held i h) ∙ e))

  pub once_fails : (get_or counts i 0 ≡ 1 → ⊥) → each_once (rows_in ns) i ≡ false
  once_fails e = once_top (rows_in ns) (i - 1) i false as_suc
      (ne_eqb _ _ (λ (d : rows_into (rows_in ns) i ≡ 1). e (c.held i h ∙ d)))

pub once_zero : (rs : List Row) → each_once rs 0 ≡ true
unfolding each_once
once_zero rs = refl

-- more rows than states
pub many : (ns : List ℤ) → Fitting ns → 1023 < length ns / 4 → true ≡ no_tree (bare ns)
unfolding no_tree
many ns b h =
    let n = length ns / 4 in
    let z : rows_into (rows_in ns) n ≡ 0 = into_past ns b n h n 0 (omega arith) in
    let e : each_once (rows_in ns) n ≡ false = once_top (rows_in ns) (n - 1) n false (omega arith)
    (ne_eqb _ _ (λ (d : rows_into (rows_in ns) n ≡ 1). omega arith)) in
    sym (ap not (ap (each_once (rows_in ns)) (length_rows ns) ∙ e))

pub tree_as : (ns : List ℤ) (b : Bool) → b ≡ each_once (rows_in ns) (length ns / 4) → not b ≡ no_tree (bare ns)
unfolding no_tree
tree_as ns b e = ap not (e ∙ sym (ap (each_once (rows_in ns)) (length_rows ns)))
