-- The test of one row for SPLIT, by the row that marks its to.
use mathlib.Core.Path.{◌≡◌, refl, ap, ◌∙◌}
use mathlib.Core.Bool.{not}
use Prim.Native.Nat.{ℕ, suc, ◌-◌, ◌/◌, ◌<◌, ◌≤◌}
use native.Mathlib.Omega.{arith}
use lib.ListN.{length, get_or}
use Rattle.rows.specs.Places.{row_at}
use Rattle.rows.proofs.Codes.{same_given}
use Rattle.rows.proofs.Fits.{fits_at}
use Rattle.ruled.specs.declared.into.Marks.{Marks}
use Rattle.ruled.specs.Into.{row_mark}
use Rattle.ruled.proofs.Firsts.{First}
use Rattle.ruled.proofs.Splits.{first_read, differs_mark}
use Rattle.ruled.proofs.checks.differs.Goals as goal
use Rattle.ruled.proofs.checks.differs.Goals.{In-Some}

-- what the array says of the state that row i leads into
read : (m : Marks) (i t n : ℕ) → i < length m.rows.now / 4 → t ≡ (row_at m.rows.now i).to
    → n ≡ get_or m.into.now t 0 → (1 ≤ n) × First m.rows.now (row_at m.rows.now i).to (n - 1)
read m i t n l e q =
    first_read m.rows.now m.into.now i t n m.fitting m.marked (omega arith) e q

-- the row that marks it
first : (c : In-Some) → First c.args.marks.rows.now
    (row_at c.args.marks.rows.now c.args.i).to c.in-Some.first
unfolding row_mark
first c =
    let k : suc c.in-Some.first - 1 ≡ c.in-Some.first = omega arith in
    rw k at (read c.args.marks c.args.i c.to_at.result (suc c.in-Some.first) c.requires c.to_at.ensures.is c.in-Some.ensures).1

pub first_row-requires : goal.first_row-requires
first_row-requires c =
    let m = c.args.marks in
    omega (arith, c.to_at.ensures.is, (fits_at m.rows.now m.fitting.fits c.args.i c.requires).to)

pub production-requires-in-Some : goal.production-requires-in-Some
production-requires-in-Some c = let f = first (goal.at.production-requires-in-Some c).In-Some in omega (arith, f.there)

pub returns-in-None : goal.returns-in-None
unfolding row_mark
returns-in-None c =
    let f = read c.args.marks c.args.i c.to_at.result 0 c.requires c.to_at.ensures.is c.in-None.ensures in
    absurd (omega (arith, f.0))

pub returns-in-Some : goal.returns-in-Some
returns-in-Some c =
    let m = c.args.marks in
    let f = first (goal.at.returns-in-Some c).In-Some in
    c.ne.ensures ∙ ap not (same_given _ (λ p q. refl) c.production.result c.production-in-Some.result)
    ∙ differs_mark m.rows.now c.args.i _ _ _ f c.production.ensures c.production-in-Some.ensures
