-- What a verdict says of the call that it stands in, and what a pass says of each check.
-- Assumes nothing.
use Rattle.std.specs.Prelude.{Result, Ok, Err}
use mathlib.Core.Path.{◌≡◌, refl, sym, ap, ◌∙◌}
use mathlib.Core.Bool.{Bool, true, false, cond, not, ◌&&◌}
use mathlib.Core.List.{List, [], ◌∷◌}
use Prim.Native.Nat.{ℕ, ◌%◌, ◌≤◌}
use native.Mathlib.Omega.{arith}
use borrow.Author.Tests.{leb-true, eqb-true, ltb-false, not-false}
use lib.Dec.{leb, eqb, ltb}
use lib.ListN.{length}
use Rattle.laws.proofs.Every.{neither}
use lib.IntN.{ℤ}
use Rattle.paper.specs.Rows.{Table, rows_in, table}
use Rattle.paper.specs.declared.Refusal.{Refusal}
use Rattle.paper.specs.Answers.{Ruling, accept, refuse, then, stated, number, detail}
use Rattle.paper.specs.Checks.{first, every, row_fits, row_slice, rising, production_fits, range, order, plain}
use Rattle.rows.specs.Passed.{Passed}
use Rattle.row_checks.specs.Verdicts.{follow, of_rows, Judges, Passes, Whole}
use Rattle.rows.specs.Places.{code}
use Rattle.rows.proofs.Rest.{both}
use Rattle.rows.proofs.Fits.{code_fits}

module _ {A : Type 0} (x : Ruling A) where
  first_then : (cs : List (Bool × ℕ)) → first cs x ≡ then {A = ℕ} (first cs (accept 0)) (λ _. x)
  first_then [] = refl
  first_then (c ∷ cs) = go c.0 (first_then cs)
    where
      go : (b : Bool) → first cs x ≡ then {A = ℕ} (first cs (accept 0)) (λ _. x)
          → cond b (refuse c.1 []) (first cs x)
          ≡ then {A = ℕ} (cond b (refuse c.1 []) (first cs (accept 0))) (λ _. x)
      go true e = refl
      go false e = e

  follow_then : {B : Type 0} (v : Result B Refusal)
      → follow v x ≡ then {A = ℕ} (then (stated v) (λ _. accept 0)) (λ _. x)
  follow_then (Ok b) = refl
  follow_then (Err f) = refl

  -- the checks, followed by what is left to do, are the verdict followed by it
  pub judged : {B : Type 0} {cs : List (Bool × ℕ)} {v : Result B Refusal} → Judges cs v → first cs x ≡ follow v x
  judged {B} {cs} {v} j = first_then cs ∙ ap (λ (r : Ruling ℕ). then r (λ _. x)) j.says ∙ sym (follow_then v)

  -- where all checks pass, what is left to do is done
  pub passing : {cs : List (Bool × ℕ)} → Passes cs → first cs x ≡ x
  passing {cs} p = first_then cs ∙ ap (λ (r : Ruling ℕ). then r (λ _. x)) p.all

-- a verdict is made check by check
pub done : Passes []
done = record { all = refl }

pub taken : {A : Type 0} {cs : List (Bool × ℕ)} (a : A) → Passes cs → Judges cs (Ok a)
taken a p = record { says = p.all }

pub passes : {A : Type 0} {cs : List (Bool × ℕ)} {a : A} → Judges cs (Ok a) → Passes cs
passes j = record { all = j.says }

-- what a verdict gives where the checks pass is of no account
pub same_verdict : {A B : Type 0} {cs : List (Bool × ℕ)} (f : Refusal) → Judges {A = A} cs (Err f)
    → Judges {A = B} cs (Err f)
same_verdict f j = record { says = j.says }

pub refuses : {A : Type 0} {c : Bool × ℕ} {cs : List (Bool × ℕ)} (f : Refusal) → number f ≡ c.1 → detail f ≡ []
    → c.0 ≡ true → Judges {A = A} (c ∷ cs) (Err f)
refuses {A} {c} {cs} f m d e = record { says = rw (e, m, d) }

pub next_check : {A : Type 0} {c : Bool × ℕ} {cs : List (Bool × ℕ)} {v : Result A Refusal} → c.0 ≡ false → Judges cs v
    → Judges (c ∷ cs) v
next_check {A} {c} {cs} {v} e j = record { says = rw e j.says }

pub next_passes : {c : Bool × ℕ} {cs : List (Bool × ℕ)} → c.0 ≡ false → Passes cs → Passes (c ∷ cs)
next_passes {c} {cs} e p = record { all = rw e p.all }

-- 2 and 3 of a table whose prod0 and k are within their bounds are those of its rows
pub of_table : {A : Type 0} (p : ℤ) (k : ℕ) (ns : List ℤ) {v : Result A Refusal}
    → not (every row_fits (rows_in ns)) ≡ range (table p k ns) → Judges (of_rows ns) v → Judges (plain (table p k ns)) v
unfolding order
of_table p k ns e j = record { says = rw (← e) j.says }

head_passes : (b : Bool) (n : ℕ) (r : Ruling ℕ) → ◌≡◌ {A = Ruling ℕ} (cond b (refuse n []) r) (accept 0)
    → (b ≡ false) × (r ≡ accept 0)
head_passes true n r e = absurd (let z : ◌≡◌ {A = ℕ} 0 1 = cc in omega arith)
head_passes false n r e = (refl, e)

-- where checks pass, the first does not refuse, and the others pass
pub passes_first : {c : Bool × ℕ} {cs : List (Bool × ℕ)} → Passes (c ∷ cs) → (c.0 ≡ false) × Passes cs
passes_first {c} {cs} p =
    let h = head_passes c.0 c.1 (first cs (accept 0)) p.all in
    (h.0, record { all = h.1 })

not_false_is : (b : Bool) → not b ≡ false → b ≡ true
not_false_is true e = refl
not_false_is false e = absurd (let z : ◌≡◌ {A = ℕ} 0 1 = cc in omega arith)

-- within RANGE every row is
pub rows_fit : (t : Table) → range t ≡ false → every row_fits t.rows ≡ true
unfolding range
rows_fit t e =
    let b = production_fits t.prod0 && leb t.k 16 in
    (both b (every row_fits t.rows) (not_false_is (b && every row_fits t.rows) e)).1

pub rows_rise : (t : Table) → order t ≡ false → rising t.rows ≡ true
unfolding order
rows_rise t e = not_false_is (rising t.rows) e

-- a table that passed 2 and 3
pub passed : (p : ℤ) (k : ℕ) (ns : List ℤ) → range (table p k ns) ≡ false → order (table p k ns) ≡ false → Passed ns
passed p k ns r o = record { fits = rows_fit (table p k ns) r; rises = rows_rise (table p k ns) o }

pub plain_passed : (p : ℤ) (k : ℕ) (ns : List ℤ) → Passes (plain (table p k ns)) → Passed ns
plain_passed p k ns j =
    let a = passes_first j in
    let b = passes_first a.1 in
    passed p k ns a.0 b.0

-- within RANGE, prod0 and k are
pub record Bounded (t : Table) : Type 0 where
  pub prod0 : code t.prod0 ≤ 65536
  pub k : t.k ≤ 16

pub bounded : (t : Table) → range t ≡ false → Bounded t
unfolding range
bounded t e =
    let a = production_fits t.prod0 && leb t.k 16 in
    let b = (both a (every row_fits t.rows) (not_false_is (a && every row_fits t.rows) e)).0 in
    let h = both (production_fits t.prod0) (leb t.k 16) b in
    record { prod0 = leb-true _ _ (code_fits t.prod0 ∙ h.0); k = leb-true _ _ h.1 }

pub plain_bounded : (t : Table) → Passes (plain t) → Bounded t
plain_bounded t j = bounded t (passes_first j).0

-- a row slice that passed 1
pub measured : (ns : List ℤ) → row_slice ns ≡ false → Whole ns
unfolding row_slice
measured ns e =
    let h = neither (not (eqb (length ns % 4) 0)) (ltb 16384 (length ns)) e in
    let z : length ns % 4 ≡ 0 = eqb-true (length ns % 4) 0 (not-false (eqb (length ns % 4) 0) h.0) in
    record { few = ltb-false 16384 (length ns) h.1; fours = omega arith }
