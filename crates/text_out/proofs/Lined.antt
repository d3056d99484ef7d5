-- The lines of a table's rows, as a loop writes them one after another. Assumes nothing.
use Prim.Native.Nat.{ℕ, ◌+◌, ◌*◌, ◌<◌, ◌≤◌}
use mathlib.Core.Path.{◌≡◌, ap, sym, ◌∙◌}
use mathlib.Core.List.{List, [], ◌++◌}
use native.Mathlib.Omega.{arith}
use lib.ListN.{length, length-append}
use lib.IntN.{ℤ}
use Rattle.rows.specs.Places.{row_at, rest}
use Rattle.rows.proofs.Rest.{rest_cons, rest_end}
use Rattle.text_laws.specs.Put.{put}
use Rattle.text_out.specs.declared.writing.Writer.{Writer}
use Rattle.text_out.specs.Added.{Adds}
use Rattle.text_laws.specs.Written.{row_text, rows_text}
use Rattle.text_laws.proofs.Put.{put_put}

rows_next : (ns : List ℤ) (i : ℕ) → i * 4 + 3 < length ns →
    rows_text (rest ns i) ≡ row_text (row_at ns i) ++ rows_text (rest ns (i + 1))
unfolding rows_text
rows_next ns i h = ap rows_text (rest_cons ns i h)

pub rows_none : (ns : List ℤ) (i : ℕ) → length ns < i * 4 + 4 → rows_text (rest ns i) ≡ []
unfolding rows_text
rows_none ns i h = ap rows_text (rest_end ns i h)

-- a turn: with the row at i written, the rows after it are left to write
module _ (ns : List ℤ) (i : ℕ) (h : i * 4 + 3 < length ns) {a b : Writer} (p : Adds a b 35 (row_text (row_at ns i)))
    (room : a.at + 35 ≤ length a.out.now) where
  pub turn_holds : put b.out.now b.at (rows_text (rest ns (i + 1))) ≡ put a.out.now a.at (rows_text (rest ns i))
  turn_holds =
      let x = row_text (row_at ns i) in
      let y = rows_text (rest ns (i + 1)) in
      ap (λ (l : List ℕ). put l b.at y) p.holds
      ∙ ap (λ (n : ℕ). put (put a.out.now a.at x) n y) p.place
      ∙ put_put a.out.now a.at x (omega (arith, p.place, p.within)) y
      ∙ ap (put a.out.now a.at) (sym (rows_next ns i h))

  pub turn_place : b.at + length (rows_text (rest ns (i + 1))) ≡ a.at + length (rows_text (rest ns i))
  turn_place =
      let x = row_text (row_at ns i) in
      let y = rows_text (rest ns (i + 1)) in
      omega (arith, p.place, length-append x y, ap length (rows_next ns i h))
