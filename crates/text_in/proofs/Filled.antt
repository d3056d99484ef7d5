-- The pass that writes rows: their numbers as they are stored, and row after row. Assumes nothing.
use Prim.Native.Nat.{ℕ, ◌+◌, ◌-◌, ◌<◌, ◌≤◌}
use mathlib.Core.Path.{◌≡◌, refl, ap, sym, ◌∙◌}
use mathlib.Core.Bool.{true, ◌&&◌}
use mathlib.Core.List.{List, [], ◌++◌}
use native.Mathlib.Omega.{arith}
use lib.IntN.{ℤ}
use lib.ListN.{length}
use Rattle.std.specs.Prelude.{Some, None}
use Rattle.paper.specs.Rows.{rows_in}
use Rattle.paper.specs.Answers.{Ruling, accept, refuse, then}
use Rattle.paper.specs.Checks.{every, row_fits}
use Rattle.rows.proofs.Rest.{by_test, both}
use borrow.Author.Tests.{ltb-true, ltb-false}
use lib.Dec.{ltb}
use Rattle.text_lines.specs.declared.reading.RowLine.{RowLine}
use Rattle.text_laws.specs.Put.{put}
use Rattle.text_lines.specs.Reading.{row_from}
use Rattle.text_in.specs.Tally.{rows_read, read_row, taken, numbers_from, Ready}
use Rattle.laws.proofs.Refusals.{refuse_accept}
use Rattle.text_laws.proofs.Put.{put_put}
use Rattle.text_in.proofs.Parted.{line_numbers, rows_end, rows_bad}
use Rattle.text_in.proofs.Tallied.{rows_cons}

module _ (t : List ℕ) (at room : ℕ) (h : at < length t) (ready : Ready t at room) where
  -- a bad line is not met
  no_bad : {P : Type 0} → row_from t at ≡ None → P
  no_bad e = refuse_accept (sym (rows_bad t at h e) ∙ ready.formed)

  module _ (w : RowLine) (e : row_from t at ≡ Some w) where
    next_read : (rows_read t w.next ≡ accept (numbers_from t w.next)) ×
        (numbers_from t at ≡ line_numbers w ++ numbers_from t w.next)
    unfolding numbers_from
    next_read = go (rows_read t w.next) refl
      where
        r : List ℤ
        r = line_numbers w

        after : Ruling (List ℤ) → Ruling (List ℤ)
        after x = then x (λ ns. accept (r ++ ns))

        go : (x : Ruling (List ℤ)) → rows_read t w.next ≡ x →
            (rows_read t w.next ≡ accept (taken (rows_read t w.next))) × (taken (rows_read t at) ≡ r ++ taken (rows_read t w.next))
        go (accept ns) q = (
          q ∙ ap (λ (x : Ruling (List ℤ)). accept (taken x)) (sym q),
          ap taken (rows_cons t at w h e ∙ ap after q) ∙ ap (λ (x : Ruling (List ℤ)). r ++ taken x) (sym q),
        )
        go (refuse m d) q = refuse_accept (sym (rows_cons t at w h e ∙ ap after q) ∙ ready.formed)

    next_fit : (row_fits (read_row w) && every row_fits (rows_in (numbers_from t w.next))) ≡ true
    unfolding every
    next_fit = sym (ap (λ (ns : List ℤ). every row_fits (rows_in ns)) next_read.1) ∙ ready.fit

    -- the row at the place fits, and the rows after it are as ready
    pub row_fit : row_fits (read_row w) ≡ true
    row_fit = (both (row_fits (read_row w)) (every row_fits (rows_in (numbers_from t w.next))) next_fit).0

    next_few : 4 + length (numbers_from t w.next) ≤ room
    next_few = omega (arith, ready.few, ap length next_read.1)

    pub row_room : 4 ≤ room
    row_room = omega (arith, next_few)

    pub next_ready : Ready t w.next (room - 4)
    next_ready = record {
      formed = next_read.0;
      fit = (both (row_fits (read_row w)) (every row_fits (rows_in (numbers_from t w.next))) next_fit).1;
      few = omega (arith, next_few);
    }

    -- with the row written, the rows after it are left to write
    pub next_put : (l m : List ℤ) (i : ℕ) → i + 4 ≤ length l → m ≡ put l i (line_numbers w) →
        put m (i + 4) (numbers_from t w.next) ≡ put l i (numbers_from t at)
    next_put l m i k q =
        ap (λ (x : List ℤ). put x (i + 4) (numbers_from t w.next)) q
        ∙ put_put l i (line_numbers w) k (numbers_from t w.next)
        ∙ ap (put l i) (sym next_read.1)

none_left : (t : List ℕ) (at : ℕ) → length t ≤ at → numbers_from t at ≡ []
unfolding numbers_from
none_left t at h = ap taken (rows_end t at h)

-- where no row stands, none is left
pub all_read : (t : List ℕ) (at room : ℕ) → Ready t at room → row_from t at ≡ None → numbers_from t at ≡ []
all_read t at room ready e = by_test (ltb at (length t))
    (λ h. no_bad t at room (ltb-true at (length t) h) ready e)
    (λ h. none_left t at (ltb-false at (length t) h))
