-- `take_rows` row by row, on rows alone: prod0 and k take no part.
-- Assumes nothing.
use mathlib.Core.Path.{◌≡◌, refl, ap, ◌∙◌, subst}
use mathlib.Core.Bool.{false}
use mathlib.Core.Option.{Option, none, some}
use mathlib.Core.List.{List, [], ◌∷◌, ◌++◌, map}
use Prim.Native.Nat.{ℕ, ◌<◌, ◌≤◌}
use native.Mathlib.Omega.{arith}
use borrow.Author.Tests.{ne_eqb}
use lib.Dec.{eqb}
use lib.ListN.{length}
use Rattle.paper.specs.declared.Mode.{Mode}
use Rattle.paper.specs.Rows.{Row, Table, find}
use Rattle.paper.specs.Answers.{Ruling, accept, refuse, then}
use Rattle.paper.specs.Build.{Standing, give}
use Rattle.paper.specs.Unite.{taken, matched, United, take_row, take_rows}
use Rattle.trees.specs.Reach.{Word}
use Rattle.trees.proofs.Paint.{paint}
use Rattle.trees.proofs.Tree.{Tree}
use Rattle.trees.proofs.Order.{Next, Ordered, next}
use Rattle.trees.proofs.Matching.{Matching, start_of}
use Rattle.trees.proofs.Kept.{Keeps, kept, off, keeps_rows}
use Rattle.trees.proofs.United.{Outcome, fine, clashed, row_step}
use Rattle.unite_taking.specs.Taking.{so_far, taking}

-- a row of the second taken into rows, with the matches so far
abbrev pub one_row : Mode → List Row → List (ℕ × ℕ) → Row → Ruling Standing
one_row mode rs ms r =
    taking mode rs (matched ms r.from) r.terminal r.production (find rs (matched ms r.from) r.terminal)

pub as_one_row : (mode : Mode) (rs : List Row) (ms : List (ℕ × ℕ)) (r : Row) (s t : ℕ) (q : Option ℕ)
    → s ≡ matched ms r.from → t ≡ r.terminal → q ≡ r.production
    → taking mode rs s t q (find rs s t) ≡ one_row mode rs ms r
as_one_row mode rs ms r s t q a b c = λ j. taking mode rs (a j) (b j) (c j) (find rs (a j) (b j))

-- what follows the row
abbrev pub after : Option ℕ → ℕ → List (ℕ × ℕ) → Row → Standing → United
after p k ms r w = so_far p k w.rows ((r.to, w.state) ∷ ms)

then_accept : {A B C : Type 0} (g : Ruling A) (f : A → B) (h : B → Ruling C)
    → then (then g (λ w. accept (f w))) h ≡ then g (λ w. h (f w))
then_accept (accept a) f h = refl
then_accept (refuse n d) f h = refl

row_is : (mode : Mode) (p : Option ℕ) (k : ℕ) (rs : List Row) (ms : List (ℕ × ℕ)) (r : Row) (o : Option Row)
    → ((x : Row) → o ≡ some x → 0 < x.to)
    → take_row mode (so_far p k rs ms) r o
    ≡ then (taking mode rs (matched ms r.from) r.terminal r.production o) (λ w. accept (after p k ms r w))
unfolding take_row taking give paint
row_is mode p k rs ms r none h = refl
row_is mode p k rs ms r (some x) h = go (taken mode x.production r.production)
  where
    go : (g : Ruling (Option ℕ)) → then g (λ q. accept (record {
      table = give x.to q (record { prod0 = p; k = k; rows = rs });
      matches = (r.to, x.to) ∷ ms;
    })) ≡ then (then g (λ z. accept (record { rows = map (paint x.to z) rs; state = x.to })))
        (λ w. accept (after p k ms r w))
    go (accept z) =
        let e : eqb x.to 0 ≡ false = ne_eqb x.to 0 (λ d. omega (arith, h x refl, d)) in rw e
    go (refuse n d) = refl

module _ (mode : Mode) (rs : List Row) (ms : List (ℕ × ℕ)) (tr : Tree rs) (r : Row) where
  above : (x : Row) → find rs (matched ms r.from) r.terminal ≡ some x → 0 < x.to
  above x e = omega (arith, tr.branching.up (matched ms r.from) r.terminal x e)

  taken_row : (p : Option ℕ) (k : ℕ)
      → take_row mode (so_far p k rs ms) r (find rs (matched ms r.from) r.terminal)
      ≡ then (one_row mode rs ms r) (λ w. accept (after p k ms r w))
  taken_row p k = row_is mode p k rs ms r (find rs (matched ms r.from) r.terminal) above

  rows_step : (p : Option ℕ) (k : ℕ) (rest : List Row) → take_rows mode (so_far p k rs ms) (r ∷ rest)
      ≡ then (one_row mode rs ms r) (λ w. take_rows mode (after p k ms r w) rest)
  unfolding take_rows
  rows_step p k rest =
      ap (λ (g : Ruling United). then g (λ v. take_rows mode v rest)) (taken_row p k)
      ∙ then_accept (one_row mode rs ms r) (after p k ms r) (λ v. take_rows mode v rest)

  pub step_refused : (n : ℕ) (d : List ℕ) → one_row mode rs ms r ≡ refuse n d → (p : Option ℕ) (k : ℕ) (rest : List Row)
      → take_rows mode (so_far p k rs ms) (r ∷ rest) ≡ refuse n d
  step_refused n d e p k rest =
      rows_step p k rest ∙ ap (λ (g : Ruling Standing). then g (λ w. take_rows mode (after p k ms r w) rest)) e

  pub step_taken : (w : Standing) → one_row mode rs ms r ≡ accept w → (p : Option ℕ) (k : ℕ) (rest : List Row)
      → take_rows mode (so_far p k rs ms) (r ∷ rest) ≡ take_rows mode (after p k ms r w) rest
  step_taken w e p k rest =
      rows_step p k rest ∙ ap (λ (g : Ruling Standing). then g (λ w. take_rows mode (after p k ms r w) rest)) e

  pub row_accepted : (w : Standing) → one_row mode rs ms r ≡ accept w → (p : Option ℕ) (k : ℕ)
      → take_row mode (so_far p k rs ms) r (find rs (matched ms r.from) r.terminal) ≡ accept (after p k ms r w)
  row_accepted w e p k = taken_row p k ∙ ap (λ (g : Ruling Standing). then g (λ w. accept (after p k ms r w))) e

-- ---- what is known while rows are taken goes on
invert : {mode : Mode} {a : List ℕ → Word} {pB : Option ℕ} {D : List Row} {g : Ruling United} (v : United)
    → Outcome mode a pB D g → g ≡ accept v → Matching mode a pB D v
invert {mode} {a} {pB} {D} v (fine {u} i) e = let z : u ≡ v = cc in subst (λ (x : United). Matching mode a pB D x) z i
invert v (clashed w e₁ e₂ n) e = absurd (let z : ◌≡◌ {A = ℕ} 0 1 = cc in omega arith)

pub match_on : (mode : Mode) (a : List ℕ → Word) (pB p : Option ℕ) (k : ℕ) (D rs : List Row) (ms : List (ℕ × ℕ))
    (r : Row) (w : Standing)
    → Matching mode a pB D (so_far p k rs ms) → Next D r → one_row mode rs ms r ≡ accept w
    → Matching mode a pB (D ++ (r ∷ [])) (after p k ms r w)
match_on mode a pB p k D rs ms r w i nx e =
    let u = so_far p k rs ms in
    let (v, y, at, is) = start_of mode a pB D u i r nx in
    let (x, e₁, e₂) = i.match v y at in
    let e₃ : x.state ≡ matched ms r.from = e₂ ∙ ap (matched ms) is in
    invert (after p k ms r w)
    (row_step mode a pB D u i r nx v y at is x e₁ e₃ (find rs (matched ms r.from) r.terminal)
    (ap (λ (s : ℕ). find rs s r.terminal) e₃))
    (row_accepted mode rs ms i.tree r w e p k)

pub first_row : {D : List Row} {r : Row} {rs : List Row} → Ordered D (r ∷ rs) → Next D r × Ordered (D ++ (r ∷ [])) rs
first_row (next nx o) = (nx, o)

-- ---- rows only grow in number
kept_of : {P : Table → Type 0} {g : Ruling United} (u : United) → Keeps P g → g ≡ accept u → P u.table
kept_of {P} v (kept {u} h) e = let z : u ≡ v = cc in subst (λ (x : United). P x.table) z h
kept_of u off e = absurd (let z : ◌≡◌ {A = ℕ} 0 1 = cc in omega arith)

pub many_stay : (mode : Mode) (n : ℕ) (u v : United) (rest : List Row) → n ≤ length u.table.rows
    → take_rows mode u rest ≡ accept v → n ≤ length v.table.rows
many_stay mode n u v rest h e = kept_of v (keeps_rows mode n rest u h) e
