-- The stretch that explain's second call returns.
-- Assumes nothing.
use mathlib.Core.Path.{◌≡◌, sym, ap, ◌∙◌}
use mathlib.Core.Bool.{true, false}
use mathlib.Core.List.{List, []}
use Prim.Native.Nat.{ℕ, ◌+◌, ◌-◌, ◌*◌}
use native.Mathlib.Omega.{arith}
use borrow.Author.Tests.{eq-eqb, ne_eqb}
use lib.ListN.{length}
use lib.IntN.{ℤ}
use Rattle.paper.specs.Rows.{rows_in, table, leaving}
use Rattle.paper.specs.Answers.{accept, refuse, number, detail}
use Rattle.paper.specs.Checks.{row_slice, plain}
use Rattle.paper.specs.Explain.{
  Stop,
  Stretch,
  stop,
  at_end,
  left_rows,
  explain,
  matched_count,
  stretch_of,
  stretch,
  PartOf,
}
use denote.Ref.{Bor}
use Rattle.explain.specs.declared.Part.{Part}
use Rattle.explain.specs.Stopped.{Lies}
use Rattle.search.specs.Search.{Leaves}
use Rattle.std.specs.Prelude.{Result, Ok, Err}
use Rattle.paper.specs.declared.Refusal.{Refusal}
use Rattle.row_checks.specs.Verdicts.{Judges, follow, whole}
use Rattle.row_checks.proofs.Judged.{judged}

module _ (ns : List ℤ) where
  -- the empty part at the end
  pub lies_at_end : {s : Stretch} → at_end ns ≡ s → Lies ns s (record { start = length ns; count = 0 })
  unfolding at_end
  lies_at_end e = record {
    starts = ap (λ (x : Stretch). x.start) e;
    counts = ap (λ (x : Stretch). x.count) e;
    within = omega arith;
  }

  module _ (w : Stop) where
    pub all_matched : w.left_over ≡ false → at_end ns ≡ left_rows ns (rows_in ns) w
    unfolding left_rows
    all_matched e = rw e

    module _ (o : w.left_over ≡ true) (first count : ℕ) (l : Leaves ns w.state first count) where
      pub no_rows : count ≡ 0 → at_end ns ≡ left_rows ns (rows_in ns) w
      unfolding left_rows
      no_rows e =
          let z : leaving (rows_in ns) w.state ≡ 0 = sym l.counts ∙ e in
          simp (o, eq-eqb _ _ z)

      -- the rows of the state
      pub lies_there : (count ≡ 0 → ⊥)
          → Lies ns (left_rows ns (rows_in ns) w) (record { start = first * 4; count = count * 4 })
      unfolding left_rows
      lies_there n =
          let z : leaving (rows_in ns) w.state ≡ 0 → ⊥ = λ e. n (l.counts ∙ e) in
          record {
            starts = simp (o, ne_eqb _ _ z) (ap (λ (m : ℕ). m * 4) l.begins);
            counts = simp (o, ne_eqb _ _ z) (ap (λ (m : ℕ). m * 4) l.counts);
            within = omega (arith, l.within);
          }

-- a part of the slice that lies where the stretch lies is the stretch
pub part_is : (slice part : Bor (List ℤ)) (s : Stretch) (r : Part) → Lies slice.now s r
    → PartOf slice part (record { start = r.start; count = r.start + r.count - r.start }) → PartOf slice part s
part_is slice part s r l p =
    let a : r.start ≡ s.start = l.starts in
    let d : r.start + r.count - r.start ≡ s.count = omega (arith, l.counts) in
    record {
      holds = rw (← d, ← a) p.holds;
      block = p.block;
      offset = rw (← a) p.offset;
    }

module _ (p : ℤ) (k : ℕ) (ns : List ℤ) (ts : List ℕ) where
  explain_after : {A : Type 0} (v : Result A Refusal) → Judges (whole p k ns) v
      → explain p k ns ts ≡ follow v (accept (stop (rows_in ns) 0 0 ts))
  unfolding explain
  explain_after v j = judged (accept (stop (rows_in ns) 0 0 ts)) j

  pub matched_refused : {A : Type 0} (f : Refusal) → Judges {A = A} (whole p k ns) (Err f)
      → refuse (number f) (detail f) ≡ matched_count p k ns ts
  unfolding matched_count
  matched_refused f j = rw (explain_after (Err f) j)

  pub matched_passed : {A : Type 0} (a : A) (w : Stop) → Judges (whole p k ns) (Ok a) → w ≡ stop (rows_in ns) 0 0 ts
      → accept w.matched ≡ matched_count p k ns ts
  unfolding matched_count
  matched_passed a w j s = rw (explain_after (Ok a) j, s)

  pub stretch_refused : {A : Type 0} (f : Refusal) → Judges {A = A} (whole p k ns) (Err f) → at_end ns ≡ stretch p k ns ts
  unfolding stretch stretch_of
  stretch_refused f j = rw (explain_after (Err f) j)

  pub stretch_passed : {A : Type 0} (a : A) (w : Stop) → Judges (whole p k ns) (Ok a) → w ≡ stop (rows_in ns) 0 0 ts
      → left_rows ns (rows_in ns) w ≡ stretch p k ns ts
  unfolding stretch stretch_of
  stretch_passed a w j s = rw (explain_after (Ok a) j, s)
