-- A line in form is what its numbers are written as. Assumes nothing.
use Prim.Native.String.{String}
use Prim.Native.Nat.{ℕ}
use mathlib.Core.Path.{◌≡◌, refl, ap, sym, ◌∙◌}
use mathlib.Core.Bool.{Bool, cond}
use mathlib.Core.Option.{Option, none, some}
use mathlib.Core.List.{List, [], ◌∷◌, ◌++◌}
use borrow.Author.Tests.{eqb-true}
use lib.Dec.{eqb}
use lib.ListN.{drop}
use lib.IntN.{ℤ, pos, negsuc}
use Rattle.paper.specs.Words.{bytes}
use Rattle.paper.specs.Text.{
  Piece,
  word,
  count,
  production,
  past,
  in_form,
  value,
  digit_count,
  digits,
  decimal,
  read,
  write,
  and_then,
}
use Rattle.rows.proofs.Rest.{by_test}
use Rattle.laws.proofs.Tests.{never}
use Rattle.text_pieces.proofs.Formed.{read_after, read_signed}
use Rattle.text_trips.proofs.Decimal.{formed_digits}

-- a word and what follows it
pub past_word : (w bs r : List ℕ) → past w bs ≡ some r → w ++ r ≡ bs
unfolding past
past_word [] bs r e = let q : bs ≡ r = cc in sym q
past_word (w ∷ ws) [] r e = absurd (never e)
past_word (w ∷ ws) (b ∷ bs) r e = by_test (eqb w b)
    (λ f.
    let q : w ≡ b = eqb-true w b f in
    let g : past ws bs ≡ some r = sym (ap (λ (t : Bool). cond t (past ws bs) none) f) ∙ e in
    rw q (ap (λ (x : List ℕ). b ∷ x) (past_word ws bs r g)))
    (λ f. absurd (never (sym (ap (λ (t : Bool). cond t (past ws bs) none) f) ∙ e)))

-- a number put before others
record Split (n : ℤ) (o : Option (List ℤ)) (ns : List ℤ) : Type 0 where
  rest : List ℤ
  read : o ≡ some rest
  all : ns ≡ n ∷ rest

split : (n : ℤ) (o : Option (List ℤ)) (ns : List ℤ) → and_then n o ≡ some ns → Split n o ns
unfolding and_then
split n none ns e = absurd (never e)
split n (some ms) ns e = let q : n ∷ ms ≡ ns = cc in record { rest = ms; read = refl; all = sym q }

-- the pieces of a form, one by one: what follows is rewritten already
module _ (ps : List Piece) (bs : List ℕ) (ns : List ℤ)
    (back : (cs : List ℕ) (ms : List ℤ) → read ps cs ≡ some ms → write ps ms ≡ cs) where
  back_word : (w : String) → read (word w ∷ ps) bs ≡ some ns → write (word w ∷ ps) ns ≡ bs
  unfolding write
  back_word w e = go (past (bytes w) bs) refl
    where
      go : (o : Option (List ℕ)) → past (bytes w) bs ≡ o → bytes w ++ write ps ns ≡ bs
      go none q = absurd (never (sym (read_after w ps bs none q) ∙ e))
      go (some r) q =
          ap (λ (x : List ℕ). bytes w ++ x) (back r ns (sym (read_after w ps bs (some r) q) ∙ e))
          ∙ past_word (bytes w) bs r q

  -- digits in form
  back_digits : read (count ∷ ps) bs ≡ some ns →
      (v : ℕ) × (ms : List ℤ) × (ns ≡ pos v ∷ ms) × (digits 5 v ++ write ps ms ≡ bs)
  unfolding read
  back_digits e = by_test (in_form bs)
      (λ f.
      let v = value (digit_count bs) 0 bs in
      let s = split (pos v) (read ps (drop (digit_count bs) bs)) ns (rw f at e) in (
        v,
        s.rest,
        s.all,
        ap (λ (x : List ℕ). digits 5 v ++ x) (back (drop (digit_count bs) bs) s.rest s.read)
            ∙ formed_digits bs f,
      ))
      (λ f. absurd (never (rw f at e)))

  back_count : read (count ∷ ps) bs ≡ some ns → write (count ∷ ps) ns ≡ bs
  unfolding write decimal
  back_count e = let d = back_digits e in rw d.2 d.3

  back_production : read (production ∷ ps) bs ≡ some ns → write (production ∷ ps) ns ≡ bs
  unfolding write decimal
  back_production e = go (past (bytes "-1") bs) refl
    where
      go : (o : Option (List ℕ)) → past (bytes "-1") bs ≡ o → write (production ∷ ps) ns ≡ bs
      go none q = let d = back_digits (sym (read_signed ps bs none q) ∙ e) in rw d.2 d.3
      go (some r) q =
          let s = split (negsuc 0) (read ps r) ns (sym (read_signed ps bs (some r) q) ∙ e) in
          rw s.all (ap (λ (x : List ℕ). bytes "-1" ++ x) (back r s.rest s.read) ∙ past_word
          (bytes "-1") bs r q)

pub read_write : (form : List Piece) (bs : List ℕ) (ns : List ℤ) → read form bs ≡ some ns → write form ns ≡ bs
unfolding read write
read_write [] [] ns e = refl
read_write [] (b ∷ bs) ns e = absurd (never e)
read_write (word w ∷ ps) bs ns e = back_word ps bs ns (read_write ps) w e
read_write (count ∷ ps) bs ns e = back_count ps bs ns (read_write ps) e
read_write (production ∷ ps) bs ns e = back_production ps bs ns (read_write ps) e
