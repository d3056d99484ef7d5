-- A production and its code tell each other; two productions compared. Assumes nothing.
use mathlib.Core.Path.{◌≡◌, refl}
use mathlib.Core.Bool.{Bool}
use lib.Dec.{eqb}
use Rattle.std.specs.Prelude.{Some, None}
use Rattle.std.specs.Option.{option_eq}
use Rattle.std.specs.declared.option.Option as rust
use Rattle.paper.specs.declared.Production.{Production}
use Rattle.paper.specs.Checks.{same_production}
use mathlib.Core.Option.{Option, none, some}
use Prim.Native.Nat.{ℕ, zero, suc}
use lib.IntN.{ℤ}
use Rattle.paper.specs.Rows.{Row, accepting}
use Rattle.rows.specs.Places.{code, uncoded, given, row}

pub uncoded_code : (q : Option ℕ) → uncoded (code q) ≡ q
uncoded_code none = refl
uncoded_code (some q) = refl

pub code_uncoded : (c : ℕ) → code (uncoded c) ≡ c
code_uncoded zero = refl
code_uncoded (suc q) = refl

-- the row whose numbers were read
pub row_as : (r : Row) (f t g : ℕ) (p : ℤ) → f ≡ r.from → t ≡ r.terminal → g ≡ r.to → accepting p ≡ r.production
    → row f t g p ≡ r
row_as r f t g p e₁ e₂ e₃ e₄ = rw (e₁, e₂, e₃, e₄)

-- whether two productions are the same, as code compares them
pub same_given : (f : Production → Production → Bool) → ((p q : Production) → f p q ≡ eqb p.0 q.0)
    → (p q : rust.Option Production) → option_eq f p q ≡ same_production (given p) (given q)
unfolding same_production
same_given f h None None = refl
same_given f h None (Some q) = refl
same_given f h (Some p) None = refl
same_given f h (Some p) (Some q) = h p q
