-- The lines of a text, one after another from a place on. Assumes nothing.
use Prim.Native.Nat.{ℕ, suc, ◌+◌, ◌-◌, ◌<◌, ◌≤◌}
use mathlib.Core.Path.{◌≡◌, refl, ap, sym, ◌∙◌}
use mathlib.Core.Bool.{Bool, true, false, cond}
use mathlib.Core.Option.{none, some}
use mathlib.Core.List.{List, [], ◌∷◌, ◌++◌}
use native.Mathlib.Omega.{arith}
use borrow.Author.Tests.{lt-ltb, le-ltb, ltb-true, ltb-false}
use lib.Dec.{eqb, ltb, leb-suc-suc}
use lib.IntN.{ℤ, pos}
use lib.ListN.{length, get_or, drop, length-drop, drop_of_length-le}
use lib.Seq.{drop-drop}
use Rattle.std.specs.Prelude.{Some, None}
use Rattle.paper.specs.Rows.{Table, table, natural}
use Rattle.paper.specs.Answers.{Ruling, accept, refuse, then}
use Rattle.paper.specs.Text.{Line, longer, lines, Piece, read, read_line, read_rows, read_lines, row_form, head_form}
use Rattle.rows.proofs.Rest.{by_test}
use Rattle.text_lines.specs.declared.reading.RowLine.{RowLine}
use Rattle.text_lines.specs.declared.reading.HeadLine.{HeadLine}
use Rattle.text_lines.specs.Reading.{front, line_end, row_from, head_from}
use Rattle.text_in.specs.Tally.{rows_read}
use Rattle.text_lines.proofs.Told.{row_told, row_is_read, head_told, head_is_read}
use Rattle.text_lines.proofs.Small.{head_from_at}

-- a line's end, and a byte before it
lines_end : (b : ℕ) (bs : List ℕ) → eqb b 10 ≡ true → lines (b ∷ bs) ≡ record { bytes = []; ended = true } ∷ lines bs
unfolding lines
lines_end b bs e = rw e

lines_on : (b : ℕ) (bs : List ℕ) → eqb b 10 ≡ false → lines (b ∷ bs) ≡ longer b (lines bs)
unfolding lines
lines_on b bs e = rw e

front_end : (b : ℕ) (bs : List ℕ) → eqb b 10 ≡ true → front (b ∷ bs) ≡ []
unfolding front
front_end b bs e = rw e

front_on : (b : ℕ) (bs : List ℕ) → eqb b 10 ≡ false → front (b ∷ bs) ≡ b ∷ front bs
unfolding front
front_on b bs e = rw e

-- the line that begins bytes, and the lines after it
abbrev lined : List ℕ → List ℕ → List Line
lined x bs = record { bytes = x; ended = ltb (length x) (length bs) } ∷ lines (drop (suc (length x)) bs)

module _ (b : ℕ) (bs : List ℕ) where
  ends_first : eqb b 10 ≡ true → lines (b ∷ bs) ≡ lined (front (b ∷ bs)) (b ∷ bs)
  ends_first e =
      let z : ltb 0 (suc (length bs)) ≡ true = lt-ltb 0 (suc (length bs)) (omega arith) in
      lines_end b bs e
      ∙ ap (λ (t : Bool). record { bytes = []; ended = t } ∷ lines bs) (sym z)
      ∙ ap (λ (x : List ℕ). lined x (b ∷ bs)) (sym (front_end b bs e))

  goes_on : longer b (lines bs) ≡ lined (b ∷ front bs) (b ∷ bs) → eqb b 10 ≡ false →
      lines (b ∷ bs) ≡ lined (front (b ∷ bs)) (b ∷ bs)
  goes_on k e = lines_on b bs e ∙ k ∙ ap (λ (x : List ℕ). lined x (b ∷ bs)) (sym (front_on b bs e))

  one_longer : lines bs ≡ lined (front bs) bs → longer b (lines bs) ≡ lined (b ∷ front bs) (b ∷ bs)
  unfolding longer
  one_longer k =
      let n = length (front bs) in
      ap (longer b) k
      ∙ ap (λ (t : Bool). record { bytes = b ∷ front bs; ended = t } ∷ lines (drop (suc n) bs))
      (sym (leb-suc-suc (suc n) (length bs)))

lines_first : (bs : List ℕ) → 0 < length bs → lines bs ≡ lined (front bs) bs
unfolding lines longer front
lines_first [] h = absurd (omega arith)
lines_first (b ∷ []) h = by_test (eqb b 10) (ends_first b []) (goes_on b [] refl)
lines_first (b ∷ c ∷ cs) h =
    by_test (eqb b 10)
    (ends_first b (c ∷ cs))
    (goes_on b (c ∷ cs) (one_longer b (c ∷ cs) (lines_first (c ∷ cs) (omega arith))))

shifted : (a at n : ℕ) → at ≤ n → ltb a (n - at) ≡ ltb (at + a) n
shifted a at n h = by_test (ltb a (n - at))
    (λ e. let k = ltb-true a (n - at) e in e ∙ sym (lt-ltb (at + a) n (omega arith)))
    (λ e. let k = ltb-false a (n - at) e in e ∙ sym (le-ltb (at + a) n (omega arith)))

module _ (t : List ℕ) (at : ℕ) where
  -- the line at a place
  abbrev line_at : Line
  line_at = record { bytes = front (drop at t); ended = ltb (line_end t at) (length t) }

  pub lines_at : at < length t → lines (drop at t) ≡ line_at ∷ lines (drop (line_end t at + 1) t)
  unfolding line_end
  lines_at h =
      let bs = drop at t in
      let n = length (front bs) in
      let e : ltb n (length bs) ≡ ltb (at + n) (length t) =
      ap (ltb n) (length-drop at t) ∙ shifted n at (length t) (omega arith) in
      let d : drop (suc n) bs ≡ drop (at + n + 1) t =
      drop-drop (suc n) at t ∙ let m : at + suc n ≡ at + n + 1 = omega arith in rw m in
      lines_first bs (omega (arith, length-drop at t)) ∙ rw (e, d)

-- the numbers of a row's line
abbrev pub line_numbers : RowLine → List ℤ
line_numbers r = pos r.from ∷ pos r.terminal ∷ pos r.to ∷ r.production ∷ []

-- a line in form, or not
pub line_read : (form : List Piece) (at : ℕ) (l : Line) (ns : List ℤ) →
    cond l.ended (read form l.bytes) none ≡ some ns →
    read_line form at l ≡ accept ns
unfolding read_line
line_read form at l ns e = rw (e, read_line)

pub line_unread : (form : List Piece) (at : ℕ) (l : Line) → cond l.ended (read form l.bytes) none ≡ none →
    read_line form at l ≡ refuse 13 (at ∷ [])
unfolding read_line
line_unread form at l e = rw (e, read_line)

module _ (t : List ℕ) (at : ℕ) where
  row_read : cond (ltb (line_end t at) (length t)) (read row_form (front (drop at t))) none ≡ row_told (row_from t at)
  unfolding row_from
  row_read = by_test (ltb (line_end t at) (length t))
      (λ e. rw e (sym (row_is_read (front (drop at t)) (line_end t at + 1))))
      (λ e. rw e)

  pub rows_end : length t ≤ at → rows_read t at ≡ accept []
  unfolding rows_read read_rows lines
  rows_end h = ap (λ (x : List ℕ). read_rows at (lines x)) (drop_of_length-le t h)

  module _ (h : at < length t) where
    rows_here : rows_read t at ≡ then (read_line row_form at (line_at t at)) (λ r.
        then (rows_read t (line_end t at + 1)) (λ ns. accept (r ++ ns)))
    unfolding rows_read read_rows line_end
    rows_here = ap (read_rows at) (lines_at t at h)

    pub rows_bad : row_from t at ≡ None → rows_read t at ≡ refuse 13 (at ∷ [])
    rows_bad e = rows_here ∙ rw (line_unread row_form at (line_at t at) (row_read ∙ ap row_told e))

    pub rows_row : (r : RowLine) → row_from t at ≡ Some r →
        rows_read t at ≡ then (rows_read t (line_end t at + 1)) (λ ns. accept (line_numbers r ++ ns))
    rows_row r e = rows_here ∙ rw (line_read row_form at (line_at t at) _ (row_read ∙ ap row_told e))

-- the head line
no_line : (t : List ℕ) → length t ≤ 0 → read_lines (lines t) ≡ refuse 13 (0 ∷ [])
unfolding read_lines lines
no_line [] h = refl
no_line (b ∷ bs) h = absurd (omega arith)

module _ (t : List ℕ) where
  head_read : cond (ltb (line_end t 0) (length t)) (read head_form (front t)) none ≡ head_told (head_from t 0)
  unfolding head_from
  head_read = by_test (ltb (line_end t 0) (length t))
      (λ e. rw e (sym (head_is_read (front t) (line_end t 0 + 1))))
      (λ e. rw e)

  some_head : (h : HeadLine) → head_from t 0 ≡ Some h → 0 < length t
  some_head h e = omega (arith, (head_from_at t 0 h e).inside, (head_from_at t 0 h e).place)

  head_here : 0 < length t → read_lines (lines t) ≡ then (read_line head_form 0 (line_at t 0)) (λ h.
      then (rows_read t (line_end t 0 + 1)) (λ ns.
      accept (table (get_or h 0 (pos 0)) (natural (get_or h 1 (pos 0))) ns)))
  unfolding read_lines rows_read line_end
  head_here h =
      let n : length (front t) + 1 ≡ 0 + length (front t) + 1 = omega arith in
      let ls = lines (drop (0 + length (front t) + 1) t) in
      let of_rows : ℕ → Ruling Table = λ k.
      then (read_line head_form 0 (line_at t 0)) (λ h.
      then (read_rows k ls) (λ ns. accept (table (get_or h 0 (pos 0)) (natural (get_or h 1 (pos 0))) ns))) in
      ap read_lines (lines_at t 0 h) ∙ ap of_rows n

  -- the table, from its rows
  pub head_rows : (h : HeadLine) → head_from t 0 ≡ Some h →
      read_lines (lines t) ≡ then (rows_read t h.next) (λ ns. accept (table h.prod0 h.k ns))
  head_rows h e =
      let q = line_read head_form 0 (line_at t 0) (h.prod0 ∷ pos h.k ∷ []) (head_read ∙ ap head_told e) in
      head_here (some_head h e) ∙ rw (q, (head_from_at t 0 h e).place)

  pub head_bad : head_from t 0 ≡ None → read_lines (lines t) ≡ refuse 13 (0 ∷ [])
  head_bad e = by_test (ltb 0 (length t))
      (λ h. head_here (ltb-true 0 (length t) h) ∙ rw
      (line_unread head_form 0 (line_at t 0) (head_read ∙ ap head_told e)))
      (λ h. no_line t (ltb-false 0 (length t) h))
