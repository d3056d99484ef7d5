-- Where the rows of a state begin and how many they are.
-- Assumes nothing.
use mathlib.Core.Path.{◌≡◌, refl, sym, ◌∙◌}
use mathlib.Core.List.{List}
use Prim.Native.Nat.{ℕ, ◌+◌, ◌-◌, ◌*◌, ◌/◌, ◌≤◌, ◌<◌}
use native.Mathlib.Omega.{arith}
use borrow.Author.Tests.{lt-ltb, le-ltb, eq-eqb, ne_eqb}
use lib.Dec.{eqb, ltb}
use lib.ListN.{length}
use lib.IntN.{ℤ}
use Rattle.paper.specs.Rows.{rows_in, begin, leaving}
use Rattle.rows.specs.Places.{row_at}
use Rattle.rows.specs.Passed.{Passed}
use Rattle.rows.proofs.Passing.{fit_at}
use Rattle.rows.proofs.Counted.{Counts, count_between}
use Rattle.search.specs.Search.{Lower, Leaves}

sub_zero : (a : ℕ) → a - 0 ≡ a
sub_zero a = omega arith

begin_counts : (s : ℕ) → Counts (λ r. ltb r.from s) (λ rs. begin rs s)
unfolding begin
begin_counts s = record { zero_rows = refl; one_row = λ r rs. refl }

leaving_counts : (s : ℕ) → Counts (λ r. eqb r.from s) (λ rs. leaving rs s)
unfolding leaving
leaving_counts s = record { zero_rows = refl; one_row = λ r rs. refl }

module _ (ns : List ℤ) (s a b : ℕ) (p : Passed ns) (l : Lower ns (s * 65536) a) (h : Lower ns ((s + 1) * 65536) b) where
  terminal_at : (j : ℕ) → j < length ns / 4 → (row_at ns j).terminal ≤ 65535
  terminal_at j m = (fit_at p j m).terminal

  in_order : a ≤ b
  in_order = le_of (λ (q : b < a). omega (arith, l.below b q, h.above b (omega arith) (omega (arith, l.within))))
    where
      le_of : (b < a → ⊥) → a ≤ b
      le_of n = omega (arith, n)

  begun : begin (rows_in ns) s ≡ a - 0
  begun = count_between (begin_counts s) ns 0 a (omega arith) l.within
      (λ j w. absurd (omega arith))
      (λ j w v. lt-ltb (row_at ns j).from s (omega (arith, l.below j v)))
      (λ j w v. le-ltb (row_at ns j).from s (omega (arith, l.above j w v, terminal_at j v)))

  -- the rows from the first key of the state to the first key of the next
  pub leaves : Leaves ns s a (b - a)
  leaves = record {
    begins = sym (begun ∙ sub_zero a);
    counts = sym (count_between (leaving_counts s) ns a b in_order h.within
        (λ j w. ne_eqb _ _ (λ (e : (row_at ns j).from ≡ s). omega (arith, l.below j w)))
        (λ j w v. let m : j < length ns / 4 = omega (arith, h.within) in
        eq-eqb (row_at ns j).from s (omega (arith, l.above j w m, h.below j v, terminal_at j m)))
        (λ j w v. ne_eqb _ _ (λ (e : (row_at ns j).from ≡ s). omega (arith, h.above j w v, terminal_at j v))));
    within = omega (arith, in_order, h.within);
  }

  pub leaves_order : a ≤ b
  leaves_order = in_order
