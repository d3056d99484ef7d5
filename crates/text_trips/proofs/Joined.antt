-- The lines of a text put together again, and what a text that was read is written as. Assumes nothing.
use Prim.Native.Nat.{ℕ, ◌+◌, ◌*◌}
use mathlib.Core.Path.{◌≡◌, refl, ap, sym, ◌∙◌}
use mathlib.Core.Bool.{Bool, true, false, cond}
use Rattle.std.specs.Prelude.{Some, None}
use Rattle.std.specs.Prelude as prelude
use mathlib.Core.Option.{Option, none, some}
use mathlib.Core.List.{List, [], ◌∷◌, ◌++◌}
use native.Mathlib.Omega.{arith}
use borrow.Author.Tests.{eqb-true}
use lib.Dec.{eqb}
use lib.ListN.{length, get_or}
use lib.IntN.{ℤ, pos}
use Rattle.paper.specs.Rows.{Table, table, natural}
use Rattle.paper.specs.Answers.{Ruling, accept, refuse, then}
use Rattle.paper.specs.Text.{
  Line,
  longer,
  lines,
  Piece,
  read,
  write,
  read_line,
  read_rows,
  read_lines,
  row_form,
  head_form,
  row_lines,
  text,
}
use Rattle.rows.proofs.Rest.{by_test}
use Rattle.text_lines.specs.declared.reading.HeadLine.{HeadLine}
use Rattle.text_lines.specs.Reading.{head_of}
use Rattle.laws.proofs.Tests.{never}
use Rattle.laws.proofs.Refusals.{refuse_accept}
use Rattle.text_lines.proofs.Told.{head_told, head_is_read}
use Rattle.text_in.proofs.Fours.{rows_four, line_four, size}
use Rattle.text_in.proofs.Parted.{line_read, line_unread}
use Rattle.text_trips.proofs.Rewritten.{read_write}

-- lines with their LFs
abbrev join : List Line → List ℕ
join [] = []
join (l ∷ ls) = l.bytes ++ cond l.ended (10 ∷ join ls) (join ls)

join_longer : (b : ℕ) (ls : List Line) → join (longer b ls) ≡ b ∷ join ls
unfolding longer
join_longer b [] = refl
join_longer b (l ∷ ls) = refl

lines_join : (t : List ℕ) → join (lines t) ≡ t
unfolding lines
lines_join [] = refl
lines_join (b ∷ bs) = by_test (eqb b 10)
    (λ e. rw (e, eqb-true b 10 e) (ap (λ (x : List ℕ). 10 ∷ x) (lines_join bs)))
    (λ e. rw e (join_longer b (lines bs) ∙ ap (λ (x : List ℕ). b ∷ x) (lines_join bs)))

-- a line that was read has its LF and is written as its numbers
line_back : (form : List Piece) (at : ℕ) (l : Line) (ns : List ℤ) → read_line form at l ≡ accept ns →
    (l.ended ≡ true) × (read form l.bytes ≡ some ns)
line_back form at l ns e = go l.ended refl (read form l.bytes) refl
  where
    go : (b : Bool) → l.ended ≡ b → (o : Option (List ℤ)) → read form l.bytes ≡ o →
        (l.ended ≡ true) × (read form l.bytes ≡ some ns)
    go true p (some ms) q =
        let r = line_read form at l ms (rw (p, q)) in
        let w : ms ≡ ns = cc in
        (p, q ∙ ap some w)
    go true p none q = refuse_accept (sym (line_unread form at l (rw (p, q))) ∙ e)
    go false p o q = refuse_accept (sym (line_unread form at l (rw p)) ∙ e)

-- four numbers and the rows after them
four_lines : (r ns : List ℤ) → length r ≡ 4 → row_lines (r ++ ns) ≡ write row_form r ++ (10 ∷ row_lines ns)
unfolding row_lines
four_lines [] ns e = absurd (omega arith)
four_lines (a ∷ []) ns e = absurd (omega arith)
four_lines (a ∷ b ∷ []) ns e = absurd (omega arith)
four_lines (a ∷ b ∷ c ∷ []) ns e = absurd (omega arith)
four_lines (a ∷ b ∷ c ∷ d ∷ []) ns e = refl
four_lines (a ∷ b ∷ c ∷ d ∷ x ∷ r) ns e = absurd (omega arith)

-- rows that were read are written as their lines
rows_back : (at : ℕ) (ls : List Line) (ns : List ℤ) → read_rows at ls ≡ accept ns → row_lines ns ≡ join ls
unfolding read_rows row_lines
rows_back at [] ns e = let q : ns ≡ [] = cc in rw q
rows_back at (l ∷ ls) ns e =
    let next = at + length l.bytes + 1 in
    go (rows_back next ls) (read_line row_form at l) refl (line_four at l) (read_rows next ls) refl e
  where
    go : ((ms : List ℤ) → read_rows (at + length l.bytes + 1) ls ≡ accept ms → row_lines ms ≡ join ls) →
        (x : Ruling (List ℤ)) → read_line row_form at l ≡ x → size x 4 →
        (y : Ruling (List ℤ)) → read_rows (at + length l.bytes + 1) ls ≡ y →
        then x (λ r. then y (λ ms. accept (r ++ ms))) ≡ accept ns → row_lines ns ≡ join (l ∷ ls)
    go back (accept r) p f (accept ms) q w =
        let v : r ++ ms ≡ ns = cc in
        let h = line_back row_form at l r p in
        ap row_lines (sym v)
        ∙ four_lines r ms f
        ∙ ap (λ (x : List ℕ). x ++ (10 ∷ row_lines ms)) (read_write row_form l.bytes r h.1)
        ∙ rw h.0 (ap (λ (x : List ℕ). l.bytes ++ (10 ∷ x)) (back ms q))
    go back (accept r) p f (refuse m d) q w = refuse_accept w
    go back (refuse m d) p f y q w = refuse_accept w

-- a table that was read: its numbers, and that they are written as the text
pub record Read_from (t : List ℕ) (tb : Table) : Type 0 where
  pub prod0 : ℤ
  pub k : ℕ
  pub numbers : List ℤ
  pub count : ℕ
  pub fours : length numbers ≡ count * 4
  pub is_table : tb ≡ table prod0 k numbers
  pub is_text : text prod0 k numbers ≡ t

record Two (h : List ℤ) : Type 0 where
  prod0 : ℤ
  k : ℕ
  all : h ≡ prod0 ∷ pos k ∷ []

two : (l : List ℕ) (h : List ℤ) → read head_form l ≡ some h → Two h
two l h e = go (head_of l 0) (head_is_read l 0 ∙ e)
  where
    go : (x : prelude.Option HeadLine) → head_told x ≡ some h → Two h
    go (Some l) q =
        let w : l.prod0 ∷ pos l.k ∷ [] ≡ h = cc in
        record { prod0 = l.prod0; k = l.k; all = sym w }
    go None q = absurd (never q)

lines_back : (ls : List Line) (tb : Table) → read_lines ls ≡ accept tb → Read_from (join ls) tb
unfolding read_lines text
lines_back [] tb e = refuse_accept e
lines_back (l ∷ ls) tb e = go (read_line head_form 0 l) refl (read_rows (length l.bytes + 1) ls) refl e
  where
    of : List ℤ → List ℤ → Table
    of h ns = table (get_or h 0 (pos 0)) (natural (get_or h 1 (pos 0))) ns

    go : (x : Ruling (List ℤ)) → read_line head_form 0 l ≡ x → (y : Ruling (List ℤ)) →
        read_rows (length l.bytes + 1) ls ≡ y →
        then x (λ h. then y (λ ns. accept (of h ns))) ≡ accept tb → Read_from (join (l ∷ ls)) tb
    go (accept h) p (accept ns) q w =
        let b = line_back head_form 0 l h p in
        let c = two l.bytes h b.1 in
        let v : of h ns ≡ tb = cc in
        record {
          prod0 = c.prod0;
          k = c.k;
          numbers = ns;
          count = length ls;
          fours = rw q at (rows_four (length l.bytes + 1) ls);
          is_table = sym v ∙ ap (λ (x : List ℤ). of x ns) c.all;
          is_text =
              ap (λ (x : List ℤ). write head_form x ++ (10 ∷ row_lines ns)) (sym c.all)
              ∙ ap (λ (x : List ℕ). x ++ (10 ∷ row_lines ns)) (read_write head_form l.bytes h b.1)
              ∙ rw b.0 (ap (λ (x : List ℕ). l.bytes ++ (10 ∷ x)) (rows_back (length l.bytes + 1) ls ns q));
        }
    go (accept h) p (refuse m d) q w = refuse_accept w
    go (refuse m d) p y q w = refuse_accept w

pub text_back : (t : List ℕ) (tb : Table) → read_lines (lines t) ≡ accept tb → Read_from t tb
text_back t tb e = rw (lines_join t) at (lines_back (lines t) tb e)
