-- Every accepted call of build or unite, whatever its numbers, gives a table that passes the checks 2 to 7.
-- Assumes of build that tokens are at most 65,535, as u16 are.
use mathlib.Core.Path.{◌≡◌, refl, sym, ap, subst}
use mathlib.Core.Logic.{⊎_elim}
use mathlib.Core.Bool.{Bool, true, false, not, ◌||◌, cond}
use mathlib.Core.List.{List, [], ◌∷◌, ◌++◌}
use mathlib.Core.List.Memᴰ
use Prim.Native.Nat.{ℕ, suc, ◌≤◌}
use native.Mathlib.Omega.{arith}
use lib.ListN.{length, take, drop, length-take, take-append-drop}
use lib.IntN.{ℤ}
use lib.Dec.{ltb, leb}
use borrow.Author.Tests.{ltb-false, leb-true, not-false}
use Rattle.laws.proofs.Members.{In, nowhere, where_in}
use Rattle.laws.proofs.Every.{neither}
use Rattle.paper.specs.declared.Mode.{Mode}
use Rattle.paper.specs.Rows.{Table, natural, table}
use Rattle.paper.specs.Answers.{Ruling, accept, refuse, Made}
use Rattle.paper.specs.Checks.{first, any, row_slice, little_room, tree}
use Rattle.paper.specs.Build.{built, strings, build, build_lengths, build_range, within}
use Rattle.paper.specs.Unite.{united, unite, unite_tables}
use Rattle.trees.specs.Trees.{Sound}
use Rattle.trees.specs.Bounds.{Short}
use Rattle.trees.proofs.BuildSound.{built_sound}
use Rattle.trees.proofs.UniteSound.{united_sound}

-- a check that did not refuse
pub check_passed : {A : Type 0} (c : Bool) (n : ℕ) (r : Ruling A) (m : A) → cond c (refuse n []) r ≡ accept m →
    (c ≡ false) × (r ≡ accept m)
check_passed true n r m e = let z : ◌≡◌ {A = ℕ} 0 1 = cc in absurd (omega arith)
check_passed false n r m e = (refl, e)

-- ---- build
strings_short : (lengths tokens : List ℕ) → any (λ n. ltb 16 n) lengths ≡ false →
    ((t : ℕ) → In t tokens → t ≤ 65535) → Short (strings lengths tokens)
unfolding strings any
strings_short [] tokens e h = record {
  size = λ σ i. absurd (nowhere i);
  token = λ σ i. absurd (nowhere i);
}
strings_short (n ∷ ns) tokens e h =
    let (a, b) = neither (ltb 16 n) (any (λ n. ltb 16 n) ns) e in
    let split = take-append-drop n tokens in
    let front : (t : ℕ) → In t (take n tokens) → t ≤ 65535 = λ t i.
    h t (subst (λ (z : List ℕ). In t z) split (Memᴰ.append_left (drop n tokens) i)) in
    let back : (t : ℕ) → In t (drop n tokens) → t ≤ 65535 = λ t i.
    h t (subst (λ (z : List ℕ). In t z) split (Memᴰ.append_right (take n tokens) i)) in
    let rest = strings_short ns (drop n tokens) b back in
    let short : length (take n tokens) ≤ 16 = simp length-take (omega (arith, ltb-false 16 n a)) in
    record {
      size = λ σ i. ⊎_elim (λ k. subst (λ (z : List ℕ). length z ≤ 16) (sym k) short) (λ j. rest.size σ j)
          (where_in i);
      token = λ σ i t u. ⊎_elim
          (λ k. front t (subst (λ (z : List ℕ). In t z) k u)) (λ j. rest.token σ j t u)
          (where_in i);
    }

pub within_accepted : (t : Table) (m : Made) → within t ≡ accept m → (suc (length t.rows) ≤ 1024) × (t ≡ m.table)
unfolding within
within_accepted t m e =
    let (a, b) = check_passed (ltb 1024 (suc (length t.rows))) 14 _ m e in
    let z : record { table = t; states = suc (length t.rows) } ≡ m = cc in
    (ltb-false 1024 (suc (length t.rows)) a, ap (λ (x : Made). x.table) z)

pub build_sound : (p : ℤ) (tokens lengths : List ℕ) (room : ℕ) → ((t : ℕ) → In t tokens → t ≤ 65535) →
    (m : Made) → build p tokens lengths room ≡ accept m → Sound m.table
unfolding build build_range
build_sound p tokens lengths room h m e =
    let (_, e₁) = check_passed (build_lengths tokens lengths room) 1 _ m e in
    let (a, e₂) = check_passed (build_range p lengths) 2 _ m e₁ in
    let (b, c) = neither (not (leb (natural p) 65535)) (any (λ n. ltb 16 n) lengths) a in
    let q = leb-true (natural p) 65535 (not-false (leb (natural p) 65535) b) in
    let (l, e₃) = within_accepted (built (natural p) (strings lengths tokens)) m e₂ in
    rw (← e₃) (built_sound (natural p) (strings lengths tokens) q (strings_short lengths tokens c h) l)

-- ---- unite
trees_passed : (a b : Table) (r : Ruling Made) (m : Made) → first (tree a ++ tree b) r ≡ accept m →
    Sound a × Sound b × (r ≡ accept m)
trees_passed a b r m e =
    let (a₂, e₂) = check_passed _ 2 _ m e in
    let (a₃, e₃) = check_passed _ 3 _ m e₂ in
    let (a₄, e₄) = check_passed _ 4 _ m e₃ in
    let (a₅, e₅) = check_passed _ 5 _ m e₄ in
    let (a₆, e₆) = check_passed _ 6 _ m e₅ in
    let (a₇, e₇) = check_passed _ 7 _ m e₆ in
    let (b₂, f₂) = check_passed _ 2 _ m e₇ in
    let (b₃, f₃) = check_passed _ 3 _ m f₂ in
    let (b₄, f₄) = check_passed _ 4 _ m f₃ in
    let (b₅, f₅) = check_passed _ 5 _ m f₄ in
    let (b₆, f₆) = check_passed _ 6 _ m f₅ in
    let (b₇, f₇) = check_passed _ 7 _ m f₆ in (
      record { ranged = a₂; treed = record { ordered = a₃; shaped = a₄; held = a₅; whole = a₆; once = a₇ } },
      record { ranged = b₂; treed = record { ordered = b₃; shaped = b₄; held = b₅; whole = b₆; once = b₇ } },
      f₇,
    )

pub unite_passed : (mode : Mode) (p : ℤ) (k : ℕ) (ns : List ℤ) (q : ℤ) (l : ℕ) (ms : List ℤ) (room : ℕ) (m : Made) →
    unite mode p k ns q l ms room ≡ accept m →
    Sound (table p k ns) × Sound (table q l ms) × (united mode (table p k ns) (table q l ms) ≡ accept m)
unfolding unite unite_tables
unite_passed mode p k ns q l ms room m e =
    let lengths : Bool = row_slice ns || (row_slice ms || little_room room) in
    let (_, e₁) = check_passed lengths 1 _ m e in
    trees_passed (table p k ns) (table q l ms) (united mode (table p k ns) (table q l ms)) m e₁

pub unite_sound : (mode : Mode) (p : ℤ) (k : ℕ) (ns : List ℤ) (q : ℤ) (l : ℕ) (ms : List ℤ) (room : ℕ) (m : Made) →
    unite mode p k ns q l ms room ≡ accept m → Sound m.table
unite_sound mode p k ns q l ms room m e =
    let (a, b, e₂) = unite_passed mode p k ns q l ms room m e in
    united_sound mode (table p k ns) (table q l ms) a b m e₂
