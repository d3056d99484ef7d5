-- The pass over rows, one line after another. Assumes nothing.
use Prim.Native.Nat.{ℕ, ◌+◌, ◌<◌, ◌≤◌}
use mathlib.Core.Path.{◌≡◌, refl, ap, ◌∙◌}
use mathlib.Core.List.{List, [], ◌∷◌, ◌++◌}
use lib.IntN.{ℤ}
use lib.ListN.{length}
use Rattle.std.specs.Prelude.{Some, None}
use Rattle.paper.specs.Rows.{Row, rows_in}
use Rattle.paper.specs.Answers.{Ruling, accept, refuse, then}
use Rattle.text_lines.specs.declared.reading.RowLine.{RowLine}
use Rattle.text_in.specs.declared.passes.Tally.{Tally}
use Rattle.text_lines.specs.Reading.{row_from}
use Rattle.text_in.specs.Tally.{rows_read, read_row, tallied, tally, tally_from}
use Rattle.text_in.proofs.Parted.{line_numbers, rows_end, rows_bad, rows_row}
use Rattle.text_lines.proofs.Small.{row_from_at}

-- the rows from a place on, when a row stands there
module _ (t : List ℕ) (at : ℕ) (r : RowLine) (h : at < length t) (e : row_from t at ≡ Some r) where
  pub rows_cons : rows_read t at ≡ then (rows_read t r.next) (λ ns. accept (line_numbers r ++ ns))
  rows_cons = rows_row t at h r e ∙ rw (row_from_at t at r e).place

  pub tally_row : (s : Tally) → tally_from t at s ≡ tally_from t r.next (tallied s (read_row r))
  unfolding tally_from tally
  tally_row s =
      ap (λ (x : Ruling (List ℤ)). then x (λ ns. accept (tally s (rows_in ns)))) rows_cons ∙ go (rows_read t r.next)
    where
      go : (x : Ruling (List ℤ)) →
          then (then x (λ ns. accept (line_numbers r ++ ns))) (λ ns. accept (tally s (rows_in ns)))
          ≡ then x (λ ns. accept (tally (tallied s (read_row r)) (rows_in ns)))
      go (accept ns) = refl
      go (refuse m d) = refl

module _ (t : List ℕ) (at : ℕ) (s : Tally) where
  pub tally_bad : at < length t → row_from t at ≡ None → tally_from t at s ≡ refuse 13 (at ∷ [])
  unfolding tally_from
  tally_bad h e = rw (rows_bad t at h e)

  pub tally_end : length t ≤ at → tally_from t at s ≡ accept s
  unfolding tally_from tally
  tally_end h = rw (rows_end t at h)

-- a row is counted
pub tallied_rows : (s : Tally) (r : Row) → (tallied s r).rows ≡ s.rows + 1
unfolding tallied
tallied_rows s r = refl
