-- What the pieces of a line say of reading it by its form. Assumes nothing.
use Prim.Native.String.{String}
use Prim.Native.Nat.{ℕ, ◌+◌, ◌<◌, ◌≤◌}
use mathlib.Core.Path.{◌≡◌, refl, ap, sym, ◌∙◌}
use mathlib.Core.Bool.{true, false}
use Rattle.std.specs.Prelude.{Some, None}
use Rattle.std.specs.Prelude as prelude
use mathlib.Core.Option.{Option, none, some}
use mathlib.Core.List.{List, [], ◌∷◌}
use native.Mathlib.Omega.{arith}
use borrow.Author.Tests.{eqb-true, eqb-false}
use lib.Dec.{eqb}
use lib.IntN.{ℤ, pos, negsuc}
use lib.ListN.{length, drop, length-drop}
use lib.Seq.{drop-drop}
use Rattle.paper.specs.Words.{bytes}
use Rattle.paper.specs.Text.{Piece, word, count, production, past, in_form, value, digit_count, read, and_then}
use Rattle.rows.proofs.Rest.{by_test, both}
use Rattle.text_pieces.specs.Pieces.{starts, number_at, as_production, production_at, field_at, last_at, ends_at}
use Rattle.text_pieces.proofs.Never.{no_pair, one_pair}
use Rattle.text_pieces.proofs.Starts.{past_starts, starts_within}

-- the rest of a form after a word
abbrev pub after : List Piece → Option (List ℕ) → Option (List ℤ)
after ps none = none
after ps (some bs) = read ps bs

pub read_after : (w : String) (ps : List Piece) (bs : List ℕ) (o : Option (List ℕ)) → past (bytes w) bs ≡ o →
    read (word w ∷ ps) bs ≡ after ps o
unfolding read
read_after w ps bs none e = rw (e, read)
read_after w ps bs (some r) e = rw (e, read)

module _ (l : List ℕ) (at : ℕ) (ps : List Piece) where
  pub read_word : (w : String) → starts (bytes w) (drop at l) ≡ true →
      read (word w ∷ ps) (drop at l) ≡ read ps (drop (at + length (bytes w)) l)
  read_word w e =
      read_after w ps (drop at l) (some (drop (length (bytes w)) (drop at l)))
      (past_starts (bytes w) (drop at l) ∙ rw e)
      ∙ ap (read ps) (drop-drop (length (bytes w)) at l)

  pub read_no_word : (w : String) → starts (bytes w) (drop at l) ≡ false → read (word w ∷ ps) (drop at l) ≡ none
  read_no_word w e = read_after w ps (drop at l) none (past_starts (bytes w) (drop at l) ∙ rw e)

  -- a number
  read_count : (v n : ℕ) → number_at l at ≡ Some (v, n) →
      read (count ∷ ps) (drop at l) ≡ and_then (pos v) (read ps (drop n l))
  unfolding read number_at
  read_count v n e = by_test (in_form (drop at l))
      (λ f.
      let bs = drop at l in
      let g : Some (value (digit_count bs) 0 bs, at + digit_count bs) ≡ Some (v, n) = rw f at e in
      let same = one_pair g in
      rw (f, drop-drop (digit_count bs) at l, same.0, same.1))
      (λ f. no_pair (rw f at e))

  read_no_count : number_at l at ≡ None → read (count ∷ ps) (drop at l) ≡ none
  unfolding read number_at
  read_no_count e = by_test (in_form (drop at l))
      (λ f.
      let bs = drop at l in
      let g : Some (value (digit_count bs) 0 bs, at + digit_count bs) ≡ None = rw f at e in
      let z : ◌≡◌ {A = ℕ} 0 1 = cc in
      absurd (omega arith))
      (λ f. rw f)

-- the rest of a form after a production, by what follows -1
abbrev pub signed_after : List Piece → List ℕ → Option (List ℕ) → Option (List ℤ)
signed_after ps bs none = read (count ∷ ps) bs
signed_after ps bs (some r) = and_then (negsuc 0) (read ps r)

pub read_signed : (ps : List Piece) (bs : List ℕ) (o : Option (List ℕ)) → past (bytes "-1") bs ≡ o →
    read (production ∷ ps) bs ≡ signed_after ps bs o
unfolding read
read_signed ps bs none e = rw (e, read)
read_signed ps bs (some r) e = rw (e, read)

module _ (l : List ℕ) (at : ℕ) (ps : List Piece) where
  minus_one : starts (bytes "-1") (drop at l) ≡ true →
      read (production ∷ ps) (drop at l) ≡ and_then (negsuc 0) (read ps (drop (at + 2) l))
  unfolding bytes
  minus_one e =
      read_signed ps (drop at l) (some (drop 2 (drop at l))) (past_starts (bytes "-1") (drop at l) ∙ rw e)
      ∙ ap (λ (x : List ℕ). and_then (negsuc 0) (read ps x)) (drop-drop 2 at l)

  no_minus : starts (bytes "-1") (drop at l) ≡ false →
      read (production ∷ ps) (drop at l) ≡ read (count ∷ ps) (drop at l)
  no_minus e = read_signed ps (drop at l) none (past_starts (bytes "-1") (drop at l) ∙ rw e)

  read_production : (p : ℤ) (n : ℕ) → production_at l at ≡ Some (p, n) →
      read (production ∷ ps) (drop at l) ≡ and_then p (read ps (drop n l))
  unfolding production_at
  read_production p n e = by_test (starts (bytes "-1") (drop at l))
      (λ f.
      let g : Some (negsuc 0, at + 2) ≡ Some (p, n) = rw f at e in
      let same = one_pair g in
      minus_one f ∙ rw (← same.0, ← same.1))
      (λ f. no_minus f ∙ counted (number_at l at) refl (rw f at e))
    where
      counted : (x : prelude.Option (ℕ × ℕ)) → number_at l at ≡ x → as_production x ≡ Some (p, n) →
          read (count ∷ ps) (drop at l) ≡ and_then p (read ps (drop n l))
      counted (Some (v, m)) q r =
          let same = one_pair r in read_count l at ps v m q ∙ rw (← same.0, ← same.1)
      counted None q r = no_pair r

  read_no_production : production_at l at ≡ None → read (production ∷ ps) (drop at l) ≡ none
  unfolding production_at
  read_no_production e = by_test (starts (bytes "-1") (drop at l))
      (λ f. let g : Some (negsuc 0, at + 2) ≡ None = rw f at e in no_pair (sym g))
      (λ f. no_minus f ∙ counted (number_at l at) refl (rw f at e))
    where
      counted : (x : prelude.Option (ℕ × ℕ)) → number_at l at ≡ x → as_production x ≡ None →
          read (count ∷ ps) (drop at l) ≡ none
      counted (Some (v, m)) q r = no_pair (sym r)
      counted None q r = read_no_count l at ps q

-- a word and what follows it
module _ (l : List ℕ) (at : ℕ) (ps : List Piece) (w : String) where
  pub read_field : (v n : ℕ) → field_at l at (bytes w) ≡ Some (v, n) →
      read (word w ∷ count ∷ ps) (drop at l) ≡ and_then (pos v) (read ps (drop n l))
  unfolding field_at
  read_field v n e = by_test (starts (bytes w) (drop at l))
      (λ f. read_word l at (count ∷ ps) w f ∙ read_count l (at + length (bytes w)) ps v n (rw f at e))
      (λ f. no_pair (rw f at e))

  pub read_no_field : field_at l at (bytes w) ≡ None → read (word w ∷ count ∷ ps) (drop at l) ≡ none
  unfolding field_at
  read_no_field e = by_test (starts (bytes w) (drop at l))
      (λ f. read_word l at (count ∷ ps) w f ∙ read_no_count l (at + length (bytes w)) ps (rw f at e))
      (λ f. read_no_word l at (count ∷ ps) w f)

  pub read_last : (p : ℤ) (n : ℕ) → last_at l at (bytes w) ≡ Some (p, n) →
      read (word w ∷ production ∷ ps) (drop at l) ≡ and_then p (read ps (drop n l))
  unfolding last_at
  read_last p n e = by_test (starts (bytes w) (drop at l))
      (λ f. read_word l at (production ∷ ps) w f ∙ read_production l (at + length (bytes w)) ps p n (rw f at e))
      (λ f. no_pair (rw f at e))

  pub read_no_last : last_at l at (bytes w) ≡ None → read (word w ∷ production ∷ ps) (drop at l) ≡ none
  unfolding last_at
  read_no_last e = by_test (starts (bytes w) (drop at l))
      (λ f. read_word l at (production ∷ ps) w f ∙ read_no_production l (at + length (bytes w)) ps (rw f at e))
      (λ f. read_no_word l at (production ∷ ps) w f)

-- nothing more may follow
read_nothing : (bs : List ℕ) → length bs ≡ 0 → read [] bs ≡ some []
unfolding read
read_nothing [] h = refl
read_nothing (b ∷ bs) h = absurd (omega arith)

read_something : (bs : List ℕ) → 0 < length bs → read [] bs ≡ none
unfolding read
read_something [] h = absurd (omega arith)
read_something (b ∷ bs) h = refl

module _ (l : List ℕ) (at : ℕ) (w : String) where
  pub read_end : ends_at l at (bytes w) ≡ true → read (word w ∷ []) (drop at l) ≡ some []
  unfolding ends_at
  read_end e =
      let h = both (starts (bytes w) (drop at l)) (eqb (at + length (bytes w)) (length l)) e in
      let n = eqb-true (at + length (bytes w)) (length l) h.1 in
      read_word l at [] w h.0
      ∙ read_nothing (drop (at + length (bytes w)) l) (omega (arith, length-drop (at + length (bytes w)) l))

  pub read_no_end : at ≤ length l → ends_at l at (bytes w) ≡ false → read (word w ∷ []) (drop at l) ≡ none
  unfolding ends_at
  read_no_end k e = by_test (starts (bytes w) (drop at l))
      (λ f.
      let g : eqb (at + length (bytes w)) (length l) ≡ false = rw f at e in
      let d = eqb-false (at + length (bytes w)) (length l) g in
      let b = starts_within (bytes w) l at k f in
      read_word l at [] w f
      ∙ read_something (drop (at + length (bytes w)) l) (omega (arith, length-drop (at + length (bytes w)) l)))
      (λ f. read_no_word l at [] w f)
