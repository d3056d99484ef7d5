-- A line that was written is read as its numbers. Assumes nothing.
use Prim.Native.String.{String}
use Prim.Native.Nat.{ℕ, zero, suc, ◌<◌, ◌≤◌}
use mathlib.Core.Path.{◌≡◌, refl, ap, ◌∙◌}
use mathlib.Core.Option.{none, some}
use mathlib.Core.List.{List, [], ◌∷◌, ◌++◌}
use native.Mathlib.Omega.{arith}
use borrow.Author.Tests.{eq-eqb, ne_eqb}
use lib.ListN.{length}
use lib.Seq.{drop-append_seam}
use lib.IntN.{ℤ, pos, negsuc}
use Rattle.paper.specs.Words.{bytes}
use Rattle.paper.specs.Rows.{accepting}
use Rattle.paper.specs.Text.{
  Piece,
  word,
  count,
  production,
  past,
  is_digit,
  digit_count,
  digits,
  decimal,
  read,
  write,
  and_then,
  row_form,
  head_form,
}
use Rattle.rows.specs.Places.{code}
use Rattle.text_pieces.proofs.Numbers.{digit_of}
use Rattle.text_pieces.proofs.Formed.{read_after, read_signed}
use Rattle.text_trips.proofs.Decimal.{Digits, are_digits, own_first, written}

past_own : (w bs : List ℕ) → past w (w ++ bs) ≡ some bs
unfolding past
past_own [] bs = refl
past_own (w ∷ ws) bs = rw (eq-eqb w w refl) (past_own ws bs)

reread_word : (w : String) (ps : List Piece) (bs : List ℕ) → read (word w ∷ ps) (bytes w ++ bs) ≡ read ps bs
reread_word w ps bs = read_after w ps (bytes w ++ bs) (some bs) (past_own (bytes w) bs)

some_digits : (n : ℕ) → n < 100000 → 0 < length (digits 5 n)
unfolding digits
some_digits zero h = omega arith
some_digits (suc n) h = (own_first 5 (suc n) (omega arith) h).0

module _ (ps : List Piece) (bs : List ℕ) (e : digit_count bs ≡ 0) where
  reread_count : (n : ℕ) → n < 100000 → read (count ∷ ps) (digits 5 n ++ bs) ≡ and_then (pos n) (read ps bs)
  unfolding read
  reread_count n h =
      let w = written n bs h e in
      rw (w.formed, w.count, w.number, drop-append_seam (digits 5 n) bs)

  -- digits are no -1
  no_minus : (ds : List ℕ) → Digits ds → 0 < length ds → past (45 ∷ 49 ∷ []) (ds ++ bs) ≡ none
  unfolding past
  no_minus [] k h = absurd (omega arith)
  no_minus (d ∷ ds) k h = let b = digit_of d k.0 in rw (ne_eqb 45 d (λ q. omega arith))

  reread_production : (z : ℤ) → code (accepting z) ≤ 65536 →
      read (production ∷ ps) (decimal z ++ bs) ≡ and_then z (read ps bs)
  unfolding decimal bytes
  reread_production (pos n) h =
      let m : n < 100000 = omega arith in
      read_signed ps (digits 5 n ++ bs) none (no_minus (digits 5 n) (are_digits 5 n) (some_digits n m))
      ∙ reread_count n m
  reread_production (negsuc zero) h = read_signed ps (45 ∷ 49 ∷ bs) (some bs) (past_own (bytes "-1") bs)
  reread_production (negsuc (suc n)) h = absurd (omega arith)

-- what is left of the forms
abbrev k_form : List Piece
k_form = word ", " ∷ count ∷ word ")" ∷ []

abbrev p_form : List Piece
p_form = word ", " ∷ production ∷ word ")," ∷ []

abbrev g_form : List Piece
g_form = word ", " ∷ count ∷ p_form

abbrev t_form : List Piece
t_form = word ", " ∷ count ∷ g_form

-- lines
pub reread_head : (p : ℤ) (k : ℕ) → code (accepting p) ≤ 65536 → k < 100000 →
    read head_form (write head_form (p ∷ pos k ∷ [])) ≡ some (p ∷ pos k ∷ [])
unfolding head_form write decimal bytes digit_count is_digit and_then read
reread_head p k a b =
    let end : List ℕ = bytes ")" ++ [] in
    let of_k : List ℕ = bytes ", " ++ (digits 5 k ++ end) in
    reread_word "Dfa(" (production ∷ k_form) (decimal p ++ of_k)
    ∙ reread_production k_form of_k refl p a
    ∙ ap (and_then p)
    (reread_word ", " (count ∷ word ")" ∷ []) (digits 5 k ++ end)
    ∙ reread_count (word ")" ∷ []) end refl k b
    ∙ ap (and_then (pos k)) (reread_word ")" [] []))

pub reread_row : (f t g : ℕ) (p : ℤ) → f < 100000 → t < 100000 → g < 100000 → code (accepting p) ≤ 65536 →
    read row_form (write row_form (pos f ∷ pos t ∷ pos g ∷ p ∷ [])) ≡ some (pos f ∷ pos t ∷ pos g ∷ p ∷ [])
unfolding row_form write decimal bytes digit_count is_digit and_then read
reread_row f t g p a b c d =
    let end : List ℕ = bytes ")," ++ [] in
    let of_p : List ℕ = bytes ", " ++ (decimal p ++ end) in
    let of_g : List ℕ = bytes ", " ++ (digits 5 g ++ of_p) in
    let of_t : List ℕ = bytes ", " ++ (digits 5 t ++ of_g) in
    reread_word "Trans(" (count ∷ t_form) (digits 5 f ++ of_t)
    ∙ reread_count t_form of_t refl f a
    ∙ ap (and_then (pos f))
    (reread_word ", " (count ∷ g_form) (digits 5 t ++ of_g)
    ∙ reread_count g_form of_g refl t b
    ∙ ap (and_then (pos t))
    (reread_word ", " (count ∷ p_form) (digits 5 g ++ of_p)
    ∙ reread_count p_form of_p refl g c
    ∙ ap (and_then (pos g))
    (reread_word ", " (production ∷ word ")," ∷ []) (decimal p ++ end)
    ∙ reread_production (word ")," ∷ []) end refl p d
    ∙ ap (and_then p) (reread_word ")," [] []))))
