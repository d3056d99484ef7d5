-- What text in answers, as the report goes by it. Assumes nothing.
use Prim.Native.Nat.{ℕ, ◌*◌, ◌≤◌}
use mathlib.Core.Path.{◌≡◌}
use mathlib.Core.List.{List}
use native.Mathlib.Omega.{arith}
use lib.ListN.{length, take}
use lib.IntN.{ℤ}
use Rattle.paper.specs.declared.Refusal.{Refusal}
use Rattle.std.specs.Prelude.{Ok, Err}
use Rattle.paper.specs.Rows.{Table, table, numbers, signed}
use Rattle.paper.specs.Answers.{refuse, Reads, number, detail}
use Rattle.paper.specs.Text.{text_in}
use Rattle.laws.proofs.RowNumbers.{table_numbers, slice_numbers}
use Rattle.text_trips.proofs.Back.{passed}
use Rattle.text_trips.proofs.Trips.{of_rows}
use Rattle.report.specs.Rulings.{Rising, of_table, of_text}
use Rattle.laws.proofs.Refusals.{refused_is}

-- a table, from what is told of it
own_table : (t : Table) (p : ℤ) (k : ℕ) (ns : List ℤ) → signed t.prod0 ≡ p → t.k ≡ k →
    ns ≡ numbers t.rows → table p k ns ≡ t
own_table t p k ns a b c = rw (c, ← a, ← b) (table_numbers t)

-- the front of what text in wrote, and the ruling on its table
pub record Front (input : List ℕ) (p : ℤ) (k n : ℕ) (new : List ℤ) : Type 0 where
  pub few : n ≤ 4096
  pub room : n * 4 ≤ length new
  pub risen : Rising p k (take (n * 4) new)
  pub ruled : of_text input ≡ of_table (table p k (take (n * 4) new))

module _ (input : List ℕ) {old new : List ℤ} where
  pub text_refused : (f : Refusal) → Reads (text_in input 16384) (Err f) old new →
      of_text input ≡ refuse (number f) (detail f)
  unfolding of_text
  text_refused f m = rw (refused_is _ (text_in input 16384) (number f) (detail f) m.says)

  pub text_taken : (p : ℤ) (k n : ℕ) → Reads (text_in input 16384) (Ok (record { prod0 = p; k = k; rows = n })) old new → Front input p k n new
  unfolding of_text
  text_taken p k n m =
      let x = of_rows (text_in input 16384) p k n old new m in
      let t = x.table in
      let ok = passed input 16384 t x.ruled in
      let whole = own_table t p k (take (n * 4) new) x.prod0 x.count x.front in
      record {
        few = omega (arith, ok.few, x.size);
        room = x.room;
        risen = record {
          taken = record { whole = rw x.front (slice_numbers t.rows ok.few); ranged = rw whole ok.ranged };
          ordered = rw whole ok.ordered;
        };
        ruled = rw (x.ruled, whole);
      }
