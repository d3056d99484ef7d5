-- Rows that were read have four numbers each. Assumes nothing.
use Prim.Native.Nat.{ℕ, suc, ◌+◌, ◌*◌}
use mathlib.Core.Path.{◌≡◌, refl}
use mathlib.Core.Bool.{Bool, true, false, cond}
use Rattle.std.specs.Prelude.{Some, None}
use Rattle.std.specs.Prelude as prelude
use mathlib.Core.Option.{Option, none, some}
use mathlib.Core.List.{List, [], ◌∷◌, ◌++◌}
use native.Mathlib.Omega.{arith}
use lib.ListN.{length, drop, length-append}
use lib.IntN.{ℤ}
use Rattle.paper.specs.Answers.{Ruling, accept, refuse, then}
use Rattle.paper.specs.Text.{Line, lines, read, read_line, read_rows, row_form}
use Rattle.text_lines.specs.declared.reading.RowLine.{RowLine}
use Rattle.text_lines.specs.Reading.{row_of}
use Rattle.text_in.specs.Tally.{rows_read, numbers_from}
use Rattle.text_lines.proofs.Told.{row_told, row_is_read}

-- the numbers of a line, and of an answer
abbrev sized : Option (List ℤ) → Type 0
sized (some ns) = length ns ≡ 4
sized none = Unit

abbrev pub size : Ruling (List ℤ) → ℕ → Type 0
size (accept ns) n = length ns ≡ n
size (refuse m d) n = Unit

told_four : (r : prelude.Option RowLine) → sized (row_told r)
told_four (Some r) = refl
told_four None = tt

read_four : (b : Bool) (l : List ℕ) → sized (cond b (read row_form l) none)
read_four true l = rw (row_is_read l 0) at (told_four (row_of l 0))
read_four false l = tt

pub line_four : (at : ℕ) (l : Line) → size (read_line row_form at l) 4
unfolding read_line
line_four at l = go (cond l.ended (read row_form l.bytes) none) (read_four l.ended l.bytes)
  where
    go : (o : Option (List ℤ)) → sized o → size (elim o [ some ns ↦ accept ns | none ↦ refuse 13 (at ∷ []) ]) 4
    go (some ns) k = k
    go none k = tt

pub rows_four : (at : ℕ) (ls : List Line) → size (read_rows at ls) (length ls * 4)
unfolding read_rows
rows_four at [] = refl
rows_four at (l ∷ ls) = go (read_line row_form at l) (line_four at l) (read_rows (at + length l.bytes + 1) ls)
    (rows_four (at + length l.bytes + 1) ls)
  where
    go : (r : Ruling (List ℤ)) → size r 4 → (q : Ruling (List ℤ)) → size q (length ls * 4) →
        size (then r (λ x. then q (λ ns. accept (x ++ ns)))) (suc (length ls) * 4)
    go (accept x) a (accept ns) b = omega (arith, length-append x ns)
    go (accept x) a (refuse m d) b = tt
    go (refuse m d) a q b = tt

-- the numbers of the rows from a place on
pub fours : (t : List ℕ) (at : ℕ) → rows_read t at ≡ accept (numbers_from t at) →
    length (numbers_from t at) ≡ length (lines (drop at t)) * 4
unfolding rows_read
fours t at e = rw e at (rows_four at (lines (drop at t)))
