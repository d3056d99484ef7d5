-- A line's answer is what reading it by its form gives. Assumes nothing.
use Prim.Native.String.{String}
use Prim.Native.Nat.{ℕ, ◌≤◌}
use mathlib.Core.Path.{◌≡◌, refl, ap, sym, ◌∙◌}
use mathlib.Core.Bool.{cond}
use Rattle.std.specs.Prelude.{Some, None}
use Rattle.std.specs.Prelude as prelude
use mathlib.Core.Option.{Option, none, some}
use mathlib.Core.List.{List, [], ◌∷◌}
use native.Mathlib.Omega.{arith}
use lib.IntN.{ℤ, pos}
use lib.ListN.{length, drop}
use Rattle.paper.specs.Words.{bytes}
use Rattle.paper.specs.Text.{Piece, word, count, production, read, and_then, row_form, head_form}
use Rattle.rows.proofs.Rest.{by_test}
use Rattle.text_lines.specs.declared.reading.RowLine.{RowLine}
use Rattle.text_lines.specs.declared.reading.HeadLine.{HeadLine}
use Rattle.text_pieces.specs.Pieces.{field_at, last_at, ends_at}
use Rattle.text_lines.specs.Reading.{on_is, row_of, head_of}
use Rattle.text_pieces.proofs.Forms.{field_within, last_within}
use Rattle.text_pieces.proofs.Formed.{read_field, read_no_field, read_last, read_no_last, read_end, read_no_end}

-- the numbers of a line's answer
abbrev pub row_told : prelude.Option RowLine → Option (List ℤ)
row_told (Some r) = some (pos r.from ∷ pos r.terminal ∷ pos r.to ∷ r.production ∷ [])
row_told None = none

abbrev pub head_told : prelude.Option HeadLine → Option (List ℤ)
head_told (Some h) = some (h.prod0 ∷ pos h.k ∷ [])
head_told None = none

-- one piece of a line, with what has been read before it and what follows it
module _ {A : Type 0} (told : prelude.Option A → Option (List ℤ)) (untold : told None ≡ none) (l : List ℕ)
    (before : Option (List ℤ) → Option (List ℤ)) (kept : before none ≡ none) where
  told_field : (at : ℕ) (w : String) (ps : List Piece) (next : ℕ → ℕ → prelude.Option A) → at ≤ length l →
      ((v n : ℕ) → n ≤ length l → told (next v n) ≡ before (and_then (pos v) (read ps (drop n l)))) →
      told (on_is (field_at l at (bytes w)) next) ≡ before (read (word w ∷ count ∷ ps) (drop at l))
  told_field at w ps next h k = go (field_at l at (bytes w)) refl
    where
      go : (x : prelude.Option (ℕ × ℕ)) → field_at l at (bytes w) ≡ x →
          told (on_is x next) ≡ before (read (word w ∷ count ∷ ps) (drop at l))
      go (Some (v, n)) e =
          k v n (field_within l at (bytes w) h v n e).inside ∙ ap before (sym (read_field l at ps w v n e))
      go None e = untold ∙ sym (ap before (read_no_field l at ps w e) ∙ kept)

  told_last : (at : ℕ) (w : String) (ps : List Piece) (next : ℤ → ℕ → prelude.Option A) → at ≤ length l →
      ((p : ℤ) (n : ℕ) → n ≤ length l → told (next p n) ≡ before (and_then p (read ps (drop n l)))) →
      told (on_is (last_at l at (bytes w)) next) ≡ before (read (word w ∷ production ∷ ps) (drop at l))
  told_last at w ps next h k = go (last_at l at (bytes w)) refl
    where
      go : (x : prelude.Option (ℤ × ℕ)) → last_at l at (bytes w) ≡ x →
          told (on_is x next) ≡ before (read (word w ∷ production ∷ ps) (drop at l))
      go (Some (p, n)) e =
          k p n (last_within l at (bytes w) h p n e).inside ∙ ap before (sym (read_last l at ps w p n e))
      go None e = untold ∙ sym (ap before (read_no_last l at ps w e) ∙ kept)

  told_end : (at : ℕ) (w : String) (good : A) → at ≤ length l → told (Some good) ≡ before (some []) →
      told (cond (ends_at l at (bytes w)) (Some good) None) ≡ before (read (word w ∷ []) (drop at l))
  told_end at w good h k = by_test (ends_at l at (bytes w))
      (λ e. rw e (k ∙ ap before (sym (read_end l at w e))))
      (λ e. rw e (untold ∙ sym (ap before (read_no_end l at w h e) ∙ kept)))

pub row_is_read : (l : List ℕ) (next : ℕ) → row_told (row_of l next) ≡ read row_form l
unfolding row_of row_form and_then
row_is_read l next =
    told_field row_told refl l (λ o. o) refl 0 "Trans(" _ _ (omega arith) (λ f a h.
    told_field row_told refl l (λ o. and_then (pos f) o) refl a ", " _ _ h (λ t b i.
    told_field row_told refl l (λ o. and_then (pos f) (and_then (pos t) o)) refl b ", " _ _ i (λ g c j.
    told_last row_told refl l
    (λ o. and_then (pos f) (and_then (pos t) (and_then (pos g) o))) refl c ", " _ _ j
    (λ p d k.
    told_end row_told refl l
    (λ o. and_then (pos f) (and_then (pos t) (and_then (pos g) (and_then p o))))
    refl d ")," _ k refl))))

pub head_is_read : (l : List ℕ) (next : ℕ) → head_told (head_of l next) ≡ read head_form l
unfolding head_of head_form and_then
head_is_read l next =
    told_last head_told refl l (λ o. o) refl 0 "Dfa(" _ _ (omega arith) (λ p a h.
    told_field head_told refl l (λ o. and_then p o) refl a ", " _ _ h (λ k b i.
    told_end head_told refl l (λ o. and_then p (and_then (pos k) o)) refl b ")" _ i refl))
