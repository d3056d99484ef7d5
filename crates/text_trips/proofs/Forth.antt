-- Reading what was written gives the same table, number for number. Assumes nothing.
use Prim.Native.Nat.{ℕ, zero, suc, ◌+◌, ◌*◌, ◌/◌, ◌<◌, ◌≤◌}
use mathlib.Core.Path.{◌≡◌, refl, ap, sym, subst, ◌∙◌}
use mathlib.Core.Bool.{true, false, ◌||◌}
use mathlib.Core.Option.{some}
use mathlib.Core.List.{List, [], ◌∷◌, ◌++◌}
use native.Mathlib.Omega.{arith}
use borrow.Author.Tests.{ne_eqb, le-ltb}
use lib.Dec.{eqb, ltb}
use lib.ListN.{length}
use lib.IntN.{ℤ, pos, negsuc}
use Rattle.laws.proofs.RowNumbers.{accepting_signed}
use Rattle.paper.specs.Words.{bytes}
use Rattle.paper.specs.Rows.{Row, table, rows_in, natural, accepting, signed, numbers}
use Rattle.paper.specs.Answers.{accept}
use Rattle.paper.specs.Checks.{every, row_fits, range, order, little_room, row_slice}
use Rattle.paper.specs.Text.{
  Line,
  longer,
  lines,
  Piece,
  word,
  count,
  production,
  digits,
  decimal,
  read,
  write,
  read_rows,
  read_lines,
  row_form,
  head_form,
  row_lines,
  text,
  text_in,
  text_out,
}
use Rattle.laws.proofs.Every.{neither}
use Rattle.rows.specs.Places.{code}
use Rattle.rows.proofs.Rest.{both, length_rows}
use Rattle.rows.proofs.Fits.{Fit, fit}
use Rattle.text_pieces.proofs.Numbers.{digit_of}
use Rattle.text_trips.proofs.Decimal.{Digits, are_digits}
use Rattle.text_laws.proofs.Kept.{production_kept, row_kept, numbers_kept}
use Rattle.text_out.proofs.Out.{Ranged, in_range}
use Rattle.row_checks.proofs.Judged.{measured}
use Rattle.text_in.proofs.Parted.{line_read}
use Rattle.text_trips.proofs.Reread.{reread_head, reread_row}
use Rattle.text_trips.proofs.Back.{passes}

-- bytes without an LF
abbrev Unbroken : List ℕ → Type 0
Unbroken [] = Unit
Unbroken (b ∷ bs) = (eqb b 10 ≡ false) × Unbroken bs

unbroken_both : (x y : List ℕ) → Unbroken x → Unbroken y → Unbroken (x ++ y)
unbroken_both [] y a b = b
unbroken_both (c ∷ x) y a b = (a.0, unbroken_both x y a.1 b)

unbroken_digits : (ds : List ℕ) → Digits ds → Unbroken ds
unbroken_digits [] h = tt
unbroken_digits (d ∷ ds) h = let b = digit_of d h.0 in (ne_eqb d 10 (λ q. omega arith), unbroken_digits ds h.1)

unbroken_decimal : (z : ℤ) → Unbroken (decimal z)
unfolding decimal bytes
unbroken_decimal (pos n) = unbroken_digits (digits 5 n) (are_digits 5 n)
unbroken_decimal (negsuc n) = (refl, (refl, tt))

-- a line that was written, and its LF
lines_written : (x y : List ℕ) → Unbroken x → lines (x ++ (10 ∷ y)) ≡ record { bytes = x; ended = true } ∷ lines y
unfolding lines longer
lines_written [] y h = refl
lines_written (b ∷ x) y h = rw h.0 (ap (longer b) (lines_written x y h.1))

abbrev Words : List Piece → Type 0
Words [] = Unit
Words (word w ∷ ps) = Unbroken (bytes w) × Words ps
Words (count ∷ ps) = Words ps
Words (production ∷ ps) = Words ps

unbroken_write : (form : List Piece) (ns : List ℤ) → Words form → Unbroken (write form ns)
unfolding write
unbroken_write [] ns h = tt
unbroken_write (word w ∷ ps) ns h = unbroken_both (bytes w) (write ps ns) h.0 (unbroken_write ps ns h.1)
unbroken_write (count ∷ ps) [] h = tt
unbroken_write (count ∷ ps) (n ∷ ns) h =
    unbroken_both (decimal n) (write ps ns) (unbroken_decimal n) (unbroken_write ps ns h)
unbroken_write (production ∷ ps) [] h = tt
unbroken_write (production ∷ ps) (n ∷ ns) h =
    unbroken_both (decimal n) (write ps ns) (unbroken_decimal n) (unbroken_write ps ns h)

row_words : Words row_form
unfolding row_form bytes
row_words = (
  (refl, (refl, (refl, (refl, (refl, (refl, tt)))))),
  ((refl, (refl, tt)), ((refl, (refl, tt)), ((refl, (refl, tt)), ((refl, (refl, tt)), tt)))),
)

head_words : Words head_form
unfolding head_form bytes
head_words = ((refl, (refl, (refl, (refl, tt)))), ((refl, (refl, tt)), ((refl, tt), tt)))

-- a row within bounds
row_reread : (f t g p : ℤ) →
    Fit (record { from = natural f; terminal = natural t; to = natural g; production = accepting p }) →
    read row_form (write row_form (f ∷ t ∷ g ∷ p ∷ [])) ≡ some (f ∷ t ∷ g ∷ p ∷ [])
row_reread f t g p h =
    let c : code (accepting (signed (accepting p))) ≤ 65536 = rw (accepting_signed (accepting p)) h.production in
    let r = reread_row (natural f) (natural t) (natural g) (signed (accepting p)) (omega (arith, h.from))
    (omega (arith, h.terminal)) (omega (arith, h.to)) c in
    subst (λ (x : List ℤ). read row_form (write row_form x) ≡ some x) (row_kept f t g p h) r

rows_reread : (at m : ℕ) (ns : List ℤ) → length ns ≡ m * 4 → every row_fits (rows_in ns) ≡ true →
    read_rows at (lines (row_lines ns)) ≡ accept ns
unfolding every read_rows row_lines lines
rows_reread at m [] n e = refl
rows_reread at zero (f ∷ ns) n e = absurd (omega arith)
rows_reread at (suc m) (f ∷ []) n e = absurd (omega arith)
rows_reread at (suc m) (f ∷ t ∷ []) n e = absurd (omega arith)
rows_reread at (suc m) (f ∷ t ∷ g ∷ []) n e = absurd (omega arith)
rows_reread at (suc m) (f ∷ t ∷ g ∷ p ∷ ns) n e =
    let r : Row = record { from = natural f; terminal = natural t; to = natural g; production = accepting p } in
    let h = both (row_fits r) (every row_fits (rows_in ns)) e in
    let x = write row_form (f ∷ t ∷ g ∷ p ∷ []) in
    let l : Line = record { bytes = x; ended = true } in
    ap (read_rows at) (lines_written x (row_lines ns) (unbroken_write row_form (f ∷ t ∷ g ∷ p ∷ []) row_words))
    ∙ rw (
      line_read row_form at l (f ∷ t ∷ g ∷ p ∷ []) (row_reread f t g p (fit r h.0)),
      rows_reread (at + length x + 1) m ns (omega arith) h.1,
    )

-- the whole text
lines_reread : (p : ℤ) (k m : ℕ) (ns : List ℤ) → Ranged p k ns → length ns ≡ m * 4 →
    read_lines (lines (text p k ns)) ≡ accept (table p k ns)
unfolding read_lines text
lines_reread p k m ns h n =
    let x = write head_form (p ∷ pos k ∷ []) in
    let l : Line = record { bytes = x; ended = true } in
    let few : k < 100000 = omega (arith, h.few) in
    ap read_lines (lines_written x (row_lines ns) (unbroken_write head_form (p ∷ pos k ∷ []) head_words))
    ∙ rw (
      line_read head_form 0 l (p ∷ pos k ∷ []) (reread_head p k h.prod0 few),
      rows_reread (length x + 1) m ns n h.rows,
    )

whole_rows : (ns : List ℤ) → row_slice ns ≡ false → length ns ≡ length ns / 4 * 4
whole_rows ns e = sym (measured ns e).fours

-- what an accepted text out says of its input
record Written (p : ℤ) (k : ℕ) (ns : List ℤ) (t : List ℕ) : Type 0 where
  slice : row_slice ns ≡ false
  ranged : range (table p k ns) ≡ false
  ordered : order (table p k ns) ≡ false
  is : text p k ns ≡ t

written : (p : ℤ) (k : ℕ) (ns : List ℤ) (wide : ℕ) (t : List ℕ) → text_out p k ns wide ≡ accept t → Written p k ns t
unfolding text_out
written p k ns wide t e =
    let a = passes (row_slice ns || ltb wide 262144) 1 _ t e in
    let b = passes (range (table p k ns)) 2 _ t a.1 in
    let c = passes (order (table p k ns)) 3 _ t b.1 in
    record {
      slice = (neither (row_slice ns) (ltb wide 262144) a.0).0;
      ranged = b.0;
      ordered = c.0;
      is = let q = c.1 in cc;
    }

pub written_is_read : (p : ℤ) (k : ℕ) (ns : List ℤ) (wide : ℕ) (t : List ℕ) (room : ℕ) →
    text_out p k ns wide ≡ accept t → 16384 ≤ room → text_in t room ≡ accept (table p k ns)
unfolding text_in little_room
written_is_read p k ns wide t room e h =
    let w = written p k ns wide t e in
    let q = lines_reread p k (length ns / 4) ns (in_range p k ns w.ranged) (whole_rows ns w.slice) in
    let few : length (rows_in ns) ≤ 4096 = omega (arith, length_rows ns, (measured ns w.slice).few) in
    let r : read_lines (lines t) ≡ accept (table p k ns) = rw (← w.is) q in
    rw (le-ltb room 16384 h, r, le-ltb 4096 (length (rows_in ns)) few, w.ranged, w.ordered)

-- and its table holds the numbers that were written, each as it was
pub written_as_given : (p : ℤ) (k : ℕ) (ns : List ℤ) (wide : ℕ) (t : List ℕ) → text_out p k ns wide ≡ accept t →
    (signed (accepting p) ≡ p) × (numbers (rows_in ns) ≡ ns)
written_as_given p k ns wide t e =
    let w = written p k ns wide t e in
    let fits = in_range p k ns w.ranged in (
      production_kept p fits.prod0,
      numbers_kept (length ns / 4) ns (whole_rows ns w.slice) fits.rows,
    )
