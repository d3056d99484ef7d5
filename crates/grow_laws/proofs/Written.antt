-- Rows as numbers and back: what is written is read again, and a part of the rows is a part of the numbers.
-- Assumes nothing.
use mathlib.Core.Path.{◌≡◌, refl}
use mathlib.Core.Bool.{true}
use mathlib.Core.Option.{none}
use mathlib.Core.List.{List, [], ◌∷◌, ◌++◌}
use Prim.Native.Nat.{ℕ, zero, suc, ◌+◌, ◌*◌, ◌<◌, ◌≤◌}
use native.Mathlib.Omega.{arith}
use lib.ListN.{length, get_or, take, drop}
use lib.Seq.{length-take-le, take-nil}
use lib.IntN.{ℤ, pos, negsuc}
use Rattle.laws.proofs.Every.{first_of, second_of}
use Rattle.paper.specs.Rows.{Row, natural, accepting, signed, rows_in, numbers}
use Rattle.paper.specs.Checks.{every, row_fits}
use Rattle.rows.specs.Places.{code, row_at}
use Rattle.rows.proofs.Fits.{Fit, fit}
use Rattle.rows.proofs.Rest.{length_rows}
use Rattle.grow_laws.specs.Held.{held, row_held}

pub numbers_append : (a b : List Row) → numbers (a ++ b) ≡ numbers a ++ numbers b
numbers_append [] b = refl
numbers_append (r ∷ a) b = rw (numbers_append a b)

four : (i : ℕ) → suc i * 4 ≡ suc (suc (suc (suc (i * 4))))
four i = omega arith

pub numbers_take : (i : ℕ) (rs : List Row) → numbers (take i rs) ≡ take (i * 4) (numbers rs)
numbers_take zero rs = refl
numbers_take (suc i) [] = rw (take-nil (suc i * 4))
numbers_take (suc i) (r ∷ rs) = rw (four i, numbers_take i rs)

pub numbers_drop : (i : ℕ) (rs : List Row) → numbers (drop i rs) ≡ drop (i * 4) (numbers rs)
numbers_drop zero rs = refl
numbers_drop (suc i) [] = rw (four i)
numbers_drop (suc i) (r ∷ rs) = rw (four i, numbers_drop i rs)

-- ---- numbers within bounds are what their rows are written as
back_natural : (z : ℤ) → natural z ≤ 65535 → pos (natural z) ≡ z
back_natural (pos n) h = refl
back_natural (negsuc n) h = absurd (omega arith)

back_accepting : (z : ℤ) → code (accepting z) ≤ 65536 → signed (accepting z) ≡ z
back_accepting (pos n) h = refl
back_accepting (negsuc zero) h = refl
back_accepting (negsuc (suc n)) h = absurd (omega arith)

pub numbers_back : (ns : List ℤ) (n : ℕ) → length ns ≡ n * 4 → every row_fits (rows_in ns) ≡ true
    → numbers (rows_in ns) ≡ ns
unfolding every
numbers_back [] n h e = refl
numbers_back (f ∷ []) n h e = absurd (omega arith)
numbers_back (f ∷ t ∷ []) n h e = absurd (omega arith)
numbers_back (f ∷ t ∷ g ∷ []) n h e = absurd (omega arith)
numbers_back (f ∷ t ∷ g ∷ p ∷ ns) zero h e = absurd (omega arith)
numbers_back (f ∷ t ∷ g ∷ p ∷ ns) (suc n) h e =
    let r : Row = record { from = natural f; terminal = natural t; to = natural g; production = accepting p } in
    let b : Fit r = fit r (first_of (row_fits r) (every row_fits (rows_in ns)) e) in
    rw (
      back_natural f (omega (arith, b.from)),
      back_natural t b.terminal,
      back_natural g (omega (arith, b.to)),
      back_accepting p b.production,
      numbers_back ns n (omega arith) (second_of (row_fits r) (every row_fits (rows_in ns)) e),
    )

-- ---- the row at a place
abbrev pub no_row : Row
no_row = record { from = 0; terminal = 0; to = 0; production = none }

pub row_there : (ns : List ℤ) (i : ℕ) → i * 4 + 3 < length ns → get_or (rows_in ns) i no_row ≡ row_at ns i
row_there [] i h = absurd (omega arith)
row_there (f ∷ []) i h = absurd (omega arith)
row_there (f ∷ t ∷ []) i h = absurd (omega arith)
row_there (f ∷ t ∷ g ∷ []) i h = absurd (omega arith)
row_there (f ∷ t ∷ g ∷ p ∷ ns) zero h = refl
row_there (f ∷ t ∷ g ∷ p ∷ ns) (suc i) h =
    let e : suc i * 4 ≡ suc (suc (suc (suc (i * 4)))) = four i in
    let e₁ : suc i * 4 + 1 ≡ suc (suc (suc (suc (i * 4 + 1)))) = omega arith in
    let e₂ : suc i * 4 + 2 ≡ suc (suc (suc (suc (i * 4 + 2)))) = omega arith in
    let e₃ : suc i * 4 + 3 ≡ suc (suc (suc (suc (i * 4 + 3)))) = omega arith in
    rw (e₁, e₂, e₃, e) (row_there ns i (omega arith))

module _ (buf : List ℤ) (n : ℕ) (h : n * 4 ≤ length buf) where
  pub held_numbers : length (take (n * 4) buf) ≡ n * 4
  held_numbers = length-take-le (n * 4) buf h

  pub held_length : length (held buf n) ≡ n
  held_length = omega (arith, length_rows (take (n * 4) buf), held_numbers)

  pub held_at : (i : ℕ) → i < n → get_or (held buf n) i no_row ≡ row_held buf n i
  held_at i l = row_there (take (n * 4) buf) i (omega (arith, held_numbers))
