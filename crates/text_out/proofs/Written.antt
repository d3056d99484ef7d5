-- The bytes of numbers and lines, as they are written one after another. Assumes nothing.
use Prim.Native.Nat.{ℕ, zero, suc, ◌+◌, ◌-◌, ◌≤◌}
use mathlib.Core.Path.{◌≡◌, refl, ap, ◌∙◌}
use mathlib.Core.List.{List, [], ◌∷◌, ◌++◌, append_assoc}
use native.Mathlib.Omega.{arith}
use lib.ListN.{length, length-append}
use lib.IntN.{ℤ, pos, negsuc}
use Rattle.paper.specs.Rows.{accepting, signed}
use Rattle.paper.specs.Words.{bytes}
use Rattle.paper.specs.Text.{digits, decimal, write, head_form, row_form}
use Rattle.rows.specs.Places.{code}
use Rattle.text_laws.specs.Put.{put, Puts}
use Rattle.text_out.specs.declared.writing.Writer.{Writer}
use Rattle.text_out.specs.Added.{Adds}
use Rattle.text_laws.specs.Written.{head_text}
use Rattle.text_laws.proofs.Put.{put_put}

-- a production by its code
pub decimal_none : (p : ℤ) → code (accepting p) ≡ 0 → decimal (signed (accepting p)) ≡ 45 ∷ 49 ∷ []
unfolding decimal bytes
decimal_none (pos n) e = absurd (omega (arith, e))
decimal_none (negsuc zero) e = refl
decimal_none (negsuc (suc n)) e = absurd (omega (arith, e))

pub decimal_some : (p : ℤ) (c : ℕ) → c ≡ code (accepting p) → (c ≡ 0 → ⊥) → decimal (signed (accepting p)) ≡ digits 5 (c - 1)
unfolding decimal
decimal_some (pos n) c e h = let k : c - 1 ≡ n = omega (arith, e) in rw k
decimal_some (negsuc zero) c e h = absurd (h e)
decimal_some (negsuc (suc n)) c e h = let k : c - 1 ≡ 65536 = omega (arith, e) in rw k

module _ {a b : Writer} {r : ℕ} {x : List ℕ} (p : Adds a b r x) where
  -- what is written on from where a writing ends is one writing
  pub adds_on : {c : Writer} {s : ℕ} {y : List ℕ} → a.at + r ≤ length a.out.now → Adds b c s y → Adds a c (r + s) (x ++ y)
  adds_on {c} {s} {y} h q = record {
    place = omega (arith, q.place, p.place, length-append x y);
    within = omega (arith, q.within, p.within);
    holds = q.holds
        ∙ ap (λ (l : List ℕ). put l b.at y) p.holds
        ∙ ap (λ (n : ℕ). put (put a.out.now a.at x) n y) p.place
        ∙ put_put a.out.now a.at x (omega (arith, p.place, p.within)) y;
    long = q.long ∙ p.long;
    same = q.same ∙ p.same;
  }

  -- the same bytes, within more room
  pub adds_as : {y : List ℕ} {s : ℕ} → r ≤ s → x ≡ y → Adds a b s y
  adds_as h e = record {
    place = rw (← e) p.place;
    within = omega (arith, p.within);
    holds = rw (← e) p.holds;
    long = p.long;
    same = p.same;
  }

  -- what a caller that lent the output knows of it
  pub adds_puts : {new : List ℕ} → new ≡ b.out.now → Puts a.out.now a.at r x new b.at
  adds_puts e = record { place = p.place; within = p.within; holds = e ∙ p.holds }

-- the parts of a line, grouped as they are written and as its form has them
head_grouped : (w p s n e l : List ℕ) → ((w ++ p) ++ (s ++ n)) ++ (e ++ l) ≡ (w ++ (p ++ (s ++ (n ++ (e ++ []))))) ++ l
head_grouped w p s n e l = simp append_assoc

row_grouped : (w f s t g p e l : List ℕ) →
    (((((w ++ f) ++ (s ++ t)) ++ (s ++ g)) ++ s) ++ p) ++ (e ++ l)
    ≡ (w ++ (f ++ (s ++ (t ++ (s ++ (g ++ (s ++ (p ++ (e ++ []))))))))) ++ l
row_grouped w f s t g p e l = simp append_assoc

pub head_parts : (p : ℤ) (k : ℕ) →
    (((68 ∷ 102 ∷ 97 ∷ 40 ∷ []) ++ decimal p) ++ ((44 ∷ 32 ∷ []) ++ digits 5 k)) ++ (41 ∷ 10 ∷ []) ≡ head_text p k
unfolding head_text write head_form decimal bytes
head_parts p k =
    head_grouped (68 ∷ 102 ∷ 97 ∷ 40 ∷ []) (decimal p) (44 ∷ 32 ∷ []) (digits 5 k) (41 ∷ []) (10 ∷ [])

pub row_parts : (f t g : ℕ) (p : ℤ) →
    ((((((84 ∷ 114 ∷ 97 ∷ 110 ∷ 115 ∷ 40 ∷ []) ++ digits 5 f) ++ ((44 ∷ 32 ∷ []) ++ digits 5 t))
    ++ ((44 ∷ 32 ∷ []) ++ digits 5 g))
    ++ (44 ∷ 32 ∷ []))
    ++ decimal p)
    ++ (41 ∷ 44 ∷ 10 ∷ [])
    ≡ write row_form (pos f ∷ pos t ∷ pos g ∷ p ∷ []) ++ (10 ∷ [])
unfolding write row_form decimal bytes
row_parts f t g p =
    row_grouped (84 ∷ 114 ∷ 97 ∷ 110 ∷ 115 ∷ 40 ∷ []) (digits 5 f) (44 ∷ 32 ∷ []) (digits 5 t) (digits 5 g) (decimal p)
    (41 ∷ 44 ∷ []) (10 ∷ [])
