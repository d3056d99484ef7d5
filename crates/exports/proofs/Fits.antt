-- The prod0 of an accepted call is one that an i32 holds. Assumes nothing.
use mathlib.Core.Path.{◌≡◌, sym, ap}
use mathlib.Core.Bool.{◌||◌}
use mathlib.Core.List.{List, ◌∷◌}
use Prim.Native.Nat.{ℕ, ◌<◌, ◌^◌}
use native.Mathlib.Omega.{arith}
use lib.ListN.{length}
use lib.IntN.{ℤ}
use lib.Signed.{mag}
use lib.Dec.{ltb}
use Rattle.paper.specs.declared.Mode.{Mode}
use Rattle.paper.specs.Rows.{Table, signed, table}
use Rattle.paper.specs.Answers.{Ruling, accept, refuse, then, Made}
use Rattle.paper.specs.Checks.{first, plain, row_slice, little_room, range, order, shape, loose, split}
use Rattle.paper.specs.Build.{build}
use Rattle.paper.specs.Unite.{unite}
use Rattle.paper.specs.Shrink.{shrunk, shrink_table, shrink}
use Rattle.paper.specs.Text.{lines, read_lines, text_in}
use Rattle.trees.proofs.Accepted.{check_passed, unite_sound}
use Rattle.trees.proofs.Fits.{range_fits}
use Rattle.promises.specs.Demand.{shrink_made}
use Rattle.intake_lists.specs.Call.{lists_in, lists_lengths, unite_all, table_of}
use Rattle.intake_lists.proofs.Kept.{signed_fits, built_small}

-- what followed an acceptance accepted
then_accepted : {A B : Type 0} (g : Ruling A) (f : A → Ruling B) (b : B) → then g f ≡ accept b →
    (a : A) × (f a ≡ accept b)
then_accepted (accept a) f b e = (a, e)
then_accepted (refuse n d) f b e = let z : ◌≡◌ {A = ℕ} 0 1 = cc in absurd (omega arith)

-- what was accepted
abbrev accepted_of : {A : Type 0} → A → Ruling A → A
accepted_of x (accept a) = a
accepted_of x (refuse n d) = x

-- what a call accepts has such a prod0
abbrev pub Small : Ruling Made → Type 0
Small g = (m : Made) → g ≡ accept m → mag (signed m.table.prod0) < 2 ^ 31

pub build_fits : (p : ℤ) (ts ns : List ℕ) (room : ℕ) → Small (build p ts ns room)
build_fits p ts ns room m e = (built_small p ts ns room m e).1

pub unite_fits : (mode : Mode) (p : ℤ) (k : ℕ) (ns : List ℤ) (q : ℤ) (l : ℕ) (ms : List ℤ) (room : ℕ) →
    Small (unite mode p k ns q l ms room)
unite_fits mode p k ns q l ms room m e =
    let s = unite_sound mode p k ns q l ms room m e in
    signed_fits _ (range_fits m.table s.ranged).root

pub shrink_fits : (mode : Mode) (p : ℤ) (k : ℕ) (ns : List ℤ) (room : ℕ) → Small (shrink mode p k ns room)
unfolding shrink shrink_table shrunk
shrink_fits mode p k ns room m e =
    let t : Table = table p k ns in
    let (_, e₁) = check_passed (row_slice ns || little_room room) 1 (shrink_table mode t) m e in
    let (r, e₂) = check_passed (range t) 2 _ m e₁ in
    let (_, e₃) = check_passed (order t) 3 _ m e₂ in
    let (_, e₄) = check_passed (shape t) 4 _ m e₃ in
    let (_, e₅) = check_passed (loose t) 5 _ m e₄ in
    let (_, e₆) = check_passed (split t) 6 (accept (shrunk mode t)) m e₅ in
    let same : m ≡ shrunk mode t = ap (accepted_of m) (sym e₆) in
    rw same (signed_fits _ (range_fits t r).root)

pub intake_fits : (ps : List ℤ) (cs ns ts : List ℕ) (room : ℕ) → Small (table_of ps cs ns ts room)
unfolding table_of shrink_made
intake_fits ps cs ns ts room m e =
    let (_, e₁) = check_passed (lists_lengths ps cs ns ts room) 1 _ m e in
    let (_, e₂) = then_accepted (unite_all (lists_in ps cs ns ts)) shrink_made m e₁ in
    shrink_fits _ _ _ _ _ m e₂

-- what text in does with a table that it read
abbrev checked_in : Table → Ruling Table
checked_in t = first ((ltb 4096 (length t.rows), 1) ∷ plain t) (accept t)

pub text_fits : (bs : List ℕ) (room : ℕ) (t : Table) → text_in bs room ≡ accept t →
    mag (signed t.prod0) < 2 ^ 31
unfolding text_in
text_fits bs room t e =
    let (_, e₁) = check_passed (little_room room) 1 (then (read_lines (lines bs)) checked_in) t e in
    let (u, e₂) = then_accepted (read_lines (lines bs)) checked_in t e₁ in
    let (_, e₃) = check_passed (ltb 4096 (length u.rows)) 1 _ t e₂ in
    let (r, e₄) = check_passed (range u) 2 _ t e₃ in
    let (_, e₅) = check_passed (order u) 3 (accept u) t e₄ in
    let same : t ≡ u = ap (accepted_of t) (sym e₅) in
    rw same (signed_fits _ (range_fits u r).root)
