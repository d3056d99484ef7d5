-- The numbers of a table within its bounds are kept: as rows, and as lines of text. Assumes nothing.
use Prim.Native.Nat.{ℕ, zero, suc, ◌*◌, ◌≤◌}
use mathlib.Core.Path.{◌≡◌, refl, ap, ◌∙◌}
use mathlib.Core.Bool.{true}
use mathlib.Core.List.{List, [], ◌∷◌, ◌++◌, append_assoc}
use native.Mathlib.Omega.{arith}
use lib.ListN.{length}
use lib.IntN.{ℤ, pos, negsuc}
use Rattle.paper.specs.Rows.{Row, natural, accepting, signed, rows_in, numbers}
use Rattle.paper.specs.Checks.{every, row_fits}
use Rattle.paper.specs.Text.{write, row_form, row_lines}
use Rattle.rows.specs.Places.{code}
use Rattle.rows.proofs.Rest.{both}
use Rattle.rows.proofs.Fits.{Fit, fit}
use Rattle.text_laws.specs.Written.{row_text, rows_text, row_numbers}

pub natural_kept : (z : ℤ) → natural z ≤ 65535 → pos (natural z) ≡ z
natural_kept (pos n) h = refl
natural_kept (negsuc n) h = absurd (omega arith)

pub production_kept : (z : ℤ) → code (accepting z) ≤ 65536 → signed (accepting z) ≡ z
production_kept (pos n) h = refl
production_kept (negsuc zero) h = refl
production_kept (negsuc (suc n)) h = absurd (omega arith)

-- the four numbers of a row
pub row_kept : (f t g p : ℤ) →
    Fit (record { from = natural f; terminal = natural t; to = natural g; production = accepting p }) →
    row_numbers (record { from = natural f; terminal = natural t; to = natural g; production = accepting p })
    ≡ f ∷ t ∷ g ∷ p ∷ []
row_kept f t g p h =
    let a : pos (natural f) ≡ f = natural_kept f (omega (arith, h.from)) in
    let b : pos (natural t) ≡ t = natural_kept t h.terminal in
    let c : pos (natural g) ≡ g = natural_kept g (omega (arith, h.to)) in
    let d : signed (accepting p) ≡ p = production_kept p h.production in
    rw (a, b, c, d)

-- the lines of rows
pub lines_kept : (ns : List ℤ) → every row_fits (rows_in ns) ≡ true → rows_text (rows_in ns) ≡ row_lines ns
unfolding every rows_text row_text row_lines
lines_kept [] e = refl
lines_kept (f ∷ []) e = refl
lines_kept (f ∷ t ∷ []) e = refl
lines_kept (f ∷ t ∷ g ∷ []) e = refl
lines_kept (f ∷ t ∷ g ∷ p ∷ ns) e =
    let r : Row = record { from = natural f; terminal = natural t; to = natural g; production = accepting p } in
    let h = both (row_fits r) (every row_fits (rows_in ns)) e in
    let k = row_kept f t g p (fit r h.0) in
    append_assoc (write row_form (row_numbers r)) (10 ∷ []) (rows_text (rows_in ns))
    ∙ ap (λ (x : List ℤ). write row_form x ++ (10 ∷ rows_text (rows_in ns))) k
    ∙ ap (λ (x : List ℕ). write row_form (f ∷ t ∷ g ∷ p ∷ []) ++ (10 ∷ x)) (lines_kept ns h.1)

-- the numbers of whole rows
pub numbers_kept : (m : ℕ) (ns : List ℤ) → length ns ≡ m * 4 → every row_fits (rows_in ns) ≡ true →
    numbers (rows_in ns) ≡ ns
unfolding every
numbers_kept m [] n e = refl
numbers_kept zero (f ∷ ns) n e = absurd (omega arith)
numbers_kept (suc m) (f ∷ []) n e = absurd (omega arith)
numbers_kept (suc m) (f ∷ t ∷ []) n e = absurd (omega arith)
numbers_kept (suc m) (f ∷ t ∷ g ∷ []) n e = absurd (omega arith)
numbers_kept (suc m) (f ∷ t ∷ g ∷ p ∷ ns) n e =
    let r : Row = record { from = natural f; terminal = natural t; to = natural g; production = accepting p } in
    let h = both (row_fits r) (every row_fits (rows_in ns)) e in
    ap (λ (x : List ℤ). row_numbers r ++ x) (numbers_kept m ns (omega arith) h.1)
    ∙ ap (λ (x : List ℤ). x ++ ns) (row_kept f t g p (fit r h.0))
