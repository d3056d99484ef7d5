-- What the pass over all rows has learnt at its end. Assumes nothing.
use Prim.Native.Nat.{ℕ, suc, ◌+◌}
use mathlib.Core.Path.{◌≡◌, refl, ap, sym, ◌∙◌}
use mathlib.Core.Bool.{Bool, true, false, ◌&&◌}
use mathlib.Core.List.{List, [], ◌∷◌}
use native.Mathlib.Omega.{arith}
use native.Mathlib.Numerals.{add-one}
use native.Mathlib.Nat.{add-zero}
use lib.Dec.{leb, leb-zero}
use lib.ListN.{length}
use Rattle.paper.specs.Rows.{Row}
use Rattle.paper.specs.Checks.{every, row_fits, rising, before}
use Rattle.rows.specs.Places.{key}
use Rattle.rows.proofs.Rest.{both}
use Rattle.rows.proofs.Fits.{fit}
use Rattle.rows.proofs.Keys.{before_key}
use Rattle.text_in.specs.declared.passes.Tally.{Tally}
use Rattle.text_in.specs.Tally.{tallied, tally, start}

pub tally_rows : (s : Tally) (rs : List Row) → (tally s rs).rows ≡ s.rows + length rs
unfolding tally tallied
tally_rows s [] = sym (add-zero s.rows)
tally_rows s (r ∷ rs) = tally_rows (tallied s r) rs ∙ omega arith

and_on : (a b c : Bool) → ((a && b) && c) ≡ (a && (b && c))
and_on true b c = refl
and_on false b c = refl

and_true : (a : Bool) → (a && true) ≡ a
and_true true = refl
and_true false = refl

tally_fit : (s : Tally) (rs : List Row) → (tally s rs).fits ≡ (s.fits && every row_fits rs)
unfolding tally tallied every
tally_fit s [] = sym (and_true s.fits)
tally_fit s (r ∷ rs) = tally_fit (tallied s r) rs ∙ and_on s.fits (row_fits r) (every row_fits rs)

pub tally_fits : (rs : List Row) → (tally start rs).fits ≡ every row_fits rs
tally_fits rs = tally_fit start rs

-- keys that rise, the first not below a number
unfoldable climbs : ℕ → List Row → Bool
climbs n [] = true
climbs n (r ∷ rs) = leb n (key r) && climbs (key r + 1) rs

tally_climbs : (s : Tally) (rs : List Row) → (tally s rs).rising ≡ (s.rising && climbs s.least rs)
unfolding tally tallied climbs
tally_climbs s [] = sym (and_true s.rising)
tally_climbs s (r ∷ rs) =
    tally_climbs (tallied s r) rs ∙ and_on s.rising (leb s.least (key r)) (climbs (key r + 1) rs)

-- within bounds, rows rise as their keys do
climbs_rising : (r : Row) (rs : List Row) → every row_fits (r ∷ rs) ≡ true → climbs (key r + 1) rs ≡ rising (r ∷ rs)
unfolding climbs rising every
climbs_rising r [] e = refl
climbs_rising r (s ∷ rs) e =
    let h = both (row_fits r) (every row_fits (s ∷ rs)) e in
    let g = both (row_fits s) (every row_fits rs) h.1 in
    let b : before r s ≡ leb (suc (key r)) (key s) =
    before_key r s (fit r h.0).terminal (fit s g.0).terminal in
    rw (b, add-one (key r)) (ap (λ (x : Bool). leb (suc (key r)) (key s) && x) (climbs_rising s rs h.1))

pub tally_rising : (rs : List Row) → every row_fits rs ≡ true → (tally start rs).rising ≡ rising rs
unfolding climbs rising
tally_rising [] e = tally_climbs start []
tally_rising (r ∷ rs) e = tally_climbs start (r ∷ rs) ∙ rw (leb-zero (key r)) (climbs_rising r rs e)
