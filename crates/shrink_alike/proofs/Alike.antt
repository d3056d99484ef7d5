-- The rows of states by marks, walked row by row: their number, and whether they are equal.
-- Assumes walks that stand at rows of their states.
use mathlib.Core.Path.{◌≡◌, sym, ap, ◌∙◌}
use mathlib.Core.Bool.{Bool, true, false, not, ◌&&◌}
use mathlib.Core.List.{List, [], ◌∷◌}
use mathlib.Core.Option.{Option}
use Prim.Native.Nat.{ℕ, ◌+◌, ◌*◌, ◌%◌}
use lib.IntN.{ℤ}
use Rattle.paper.specs.declared.Mode.{Mode}
use Rattle.paper.specs.Rows.{Table, rows_in}
use Rattle.paper.specs.Checks.{same_production}
use Rattle.paper.specs.Shrink.{rows_of, redirect, same_rows}
use Rattle.rows.specs.Places.{row_at, rest, code}
use Rattle.laws.proofs.Productions.{same_production_eq}
use Rattle.merging.specs.Marks.{compared}
use Rattle.shrink_alike.specs.Index.{leaves}
use Rattle.shrink_alike.specs.Faces.{coded, counted, like, hash, sign, same_row, rows_alike, production_at}
use Rattle.shrink_alike.proofs.Begins.{Standing, Walk, stand_end, stand_row}

module _ (ns : List ℤ) (mark : ℕ → ℕ) where
  -- the rows of s by marks, from i on
  abbrev pub left : ℕ → ℕ → List (ℕ × ℕ)
  left s i = redirect mark (rows_of (rest ns i) s)

  left_row : (s i : ℕ) → Standing ns s i → leaves ns s i ≡ true
      → left s i ≡ ((row_at ns i).terminal, mark (row_at ns i).to) ∷ left s (i + 1)
  unfolding redirect
  left_row s i w e = ap (redirect mark) (stand_row w e)

  left_end : (s i : ℕ) → Standing ns s i → leaves ns s i ≡ false → left s i ≡ []
  unfolding redirect
  left_end s i w e = ap (redirect mark) (stand_end w e)

  pub hash_next : (s i h : ℕ) → Standing ns s i → leaves ns s i ≡ true → (x y : ℕ)
      → x ≡ (row_at ns i).terminal → y ≡ mark (row_at ns i).to
      → hash h (left s i) ≡ hash ((h * 27191 + x * 40493 + y) % 65521) (left s (i + 1))
  unfolding hash
  hash_next s i h w e x y p q = ap (hash h) (left_row s i w e) ∙ rw (p, q)

  pub hash_end : (s i h : ℕ) → Standing ns s i → leaves ns s i ≡ false → hash h (left s i) ≡ h
  unfolding hash
  hash_end s i h w e = ap (hash h) (left_end s i w e)

  -- from where the rows of two states begin
  pub alike_start : {a b i j : ℕ} → Walk ns a i → Walk ns b j
      → rows_alike ns mark a b ≡ same_rows (left a i) (left b j)
  alike_start v w = rw (v.whole, w.whole)

  pub hash_start : {s i : ℕ} (h : ℕ) → Walk ns s i
      → hash h (redirect mark (rows_of (rows_in ns) s)) ≡ hash h (left s i)
  hash_start h w = rw w.whole

  module _ (a b i j : ℕ) (v : Standing ns a i) (w : Standing ns b j) where
    -- a row of each
    module _ (e : leaves ns a i ≡ true) (f : leaves ns b j ≡ true) where
      rows_both : same_rows (left a i) (left b j)
          ≡ (same_row ns mark i j && same_rows (left a (i + 1)) (left b (j + 1)))
      unfolding same_rows same_row
      rows_both = rw (left_row a i v e, left_row b j w f)

      pub alike_next : same_row ns mark i j ≡ true
          → same_rows (left a i) (left b j) ≡ same_rows (left a (i + 1)) (left b (j + 1))
      alike_next t = rows_both ∙ rw t

      pub alike_differ : same_row ns mark i j ≡ false → false ≡ same_rows (left a i) (left b j)
      alike_differ t = sym (rows_both ∙ rw t)

    pub alike_short : leaves ns a i ≡ true → leaves ns b j ≡ false → false ≡ same_rows (left a i) (left b j)
    unfolding same_rows
    alike_short e f = rw (left_row a i v e, left_end b j w f)

    pub alike_end : leaves ns a i ≡ false → (t : Bool) → t ≡ leaves ns b j → not t ≡ same_rows (left a i) (left b j)
    unfolding same_rows
    alike_end e true f = rw (left_end a i v e, left_row b j w (sym f))
    alike_end e false f = rw (left_end a i v e, left_end b j w (sym f))

-- ---- states

module _ (mode : Mode) (p : Option ℕ) (ns : List ℤ) (mark : ℕ → ℕ) where
  abbrev t : Table
  t = coded p ns

  counted_yes : (s : ℕ) → compared mode (production_at t s) ≡ true
      → counted mode t mark s ≡ redirect mark (rows_of (rows_in ns) s)
  unfolding counted
  counted_yes s c = rw c

  counted_no : (s : ℕ) → compared mode (production_at t s) ≡ false → counted mode t mark s ≡ []
  unfolding counted
  counted_no s c = rw c

  module _ (s : ℕ) (x : Option ℕ) (e : x ≡ production_at t s) where
    pub sign_rows : compared mode x ≡ true
        → hash (code x % 65521) (redirect mark (rows_of (rows_in ns) s)) ≡ sign mode t mark s
    unfolding sign
    sign_rows c = rw e (rw (counted_yes s (rw e at c)))

    pub sign_alone : compared mode x ≡ false → code x % 65521 ≡ sign mode t mark s
    unfolding sign hash
    sign_alone c = rw e (rw (counted_no s (rw e at c)))

  module _ (a b : ℕ) where
    pub like_not : same_production (production_at t a) (production_at t b) ≡ false → false ≡ like mode t mark a b
    unfolding like
    like_not d = rw d

    module _ (g : same_production (production_at t a) (production_at t b) ≡ true) where
      one : production_at t a ≡ production_at t b
      one = same_production_eq (production_at t a) (production_at t b) g

      pub like_cut : compared mode (production_at t a) ≡ false → true ≡ like mode t mark a b
      unfolding like same_rows
      like_cut c = rw (g, counted_no a c, counted_no b (rw one at c))

      pub like_rows : compared mode (production_at t a) ≡ true → rows_alike ns mark a b ≡ like mode t mark a b
      unfolding like
      like_rows c = rw (g, counted_yes a c, counted_yes b (rw one at c))
