-- Writing what was read gives the same bytes. Assumes nothing.
use Prim.Native.Nat.{ℕ, ◌*◌, ◌%◌, ◌≤◌}
use mathlib.Core.Path.{◌≡◌, refl, ap, ◌∙◌}
use mathlib.Core.Bool.{Bool, true, false, cond}
use mathlib.Core.List.{List, [], ◌∷◌}
use native.Mathlib.Omega.{arith}
use native.Mathlib.Nat.{mul-mod_left}
use borrow.Author.Tests.{le-ltb, ltb-false}
use lib.Dec.{ltb}
use lib.ListN.{length}
use lib.IntN.{ℤ}
use Rattle.paper.specs.Rows.{Table, table, rows_in, numbers, signed, accepting}
use Rattle.paper.specs.Answers.{Ruling, accept, refuse, then}
use Rattle.paper.specs.Checks.{first, plain, range, order, little_room, row_slice}
use Rattle.paper.specs.Text.{lines, read_lines, text_in, text_out}
use Rattle.rows.proofs.Rest.{length_rows}
use Rattle.text_laws.proofs.Kept.{production_kept, numbers_kept}
use Rattle.laws.proofs.Refusals.{refuse_accept}
use Rattle.row_checks.proofs.Judged.{done, next_passes}
use Rattle.text_out.proofs.Out.{out_text, in_range}
use Rattle.text_trips.proofs.Joined.{text_back}

-- a check that did not refuse
pub passes : {A : Type 0} (b : Bool) (n : ℕ) (r : Ruling A) (a : A) → cond b (refuse n []) r ≡ accept a →
    (b ≡ false) × (r ≡ accept a)
passes true n r a e = refuse_accept e
passes false n r a e = (refl, e)

-- the checks of a table that text in accepts
pub record Passed (t : List ℕ) (tb : Table) : Type 0 where
  pub read : read_lines (lines t) ≡ accept tb
  pub few : length tb.rows ≤ 4096
  pub ranged : range tb ≡ false
  pub ordered : order tb ≡ false

pub passed : (t : List ℕ) (room : ℕ) (tb : Table) → text_in t room ≡ accept tb → Passed t tb
unfolding text_in
passed t room tb e = go (read_lines (lines t)) refl (passes (little_room room) 1 _ tb e).1
  where
    go : (r : Ruling Table) → read_lines (lines t) ≡ r →
        then r (λ x. first ((ltb 4096 (length x.rows), 1) ∷ plain x) (accept x)) ≡ accept tb → Passed t tb
    go (accept x) q w =
        let a = passes (ltb 4096 (length x.rows)) 1 _ tb w in
        let b = passes (range x) 2 _ tb a.1 in
        let c = passes (order x) 3 _ tb b.1 in
        let v : x ≡ tb = cc in
        record {
          read = q ∙ ap accept v;
          few = ltb-false 4096 _ (rw v at a.0);
          ranged = rw v at b.0;
          ordered = rw v at c.0;
        }
    go (refuse m d) q w = refuse_accept w

whole_slice : (ns : List ℤ) (m : ℕ) → length ns ≡ m * 4 → m ≤ 4096 → row_slice ns ≡ false
unfolding row_slice
whole_slice ns m e h =
    let z : length ns % 4 ≡ 0 = rw e (mul-mod_left m 4) in
    rw (z, le-ltb 16384 (length ns) (omega arith))

pub read_is_written : (t : List ℕ) (room : ℕ) (tb : Table) (wide : ℕ) → text_in t room ≡ accept tb → 262144 ≤ wide →
    text_out (signed tb.prod0) tb.k (numbers tb.rows) wide ≡ accept t
unfolding order
read_is_written t room tb wide e h =
    let c = passed t room tb e in
    let r = text_back t tb c.read in
    let ns = r.numbers in
    let ranged : range (table r.prod0 r.k ns) ≡ false = rw r.is_table at c.ranged in
    let fits = in_range r.prod0 r.k ns ranged in
    let p : signed (accepting r.prod0) ≡ r.prod0 = production_kept r.prod0 fits.prod0 in
    let n : numbers (rows_in ns) ≡ ns = numbers_kept r.count ns r.fours fits.rows in
    let few : length (rows_in ns) ≤ 4096 = rw r.is_table at c.few in
    let slice = whole_slice ns r.count r.fours (omega (arith, r.fours, length_rows ns)) in
    let risen = rw r.is_table at c.ordered in
    let out = out_text r.prod0 r.k ns wide slice h (next_passes ranged (next_passes risen done)) in
    rw (r.is_table, p, n) (out ∙ ap accept r.is_text)
