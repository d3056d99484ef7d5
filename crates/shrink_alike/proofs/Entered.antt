-- The states of a row slice: 0, and those that the array of rows into states names.
-- Assumes that array, and where it says so rows within their bounds.
use mathlib.Core.Path.{◌≡◌, sym, ap, ◌∙◌, subst}
use mathlib.Core.Logic.{⊎_elim}
use mathlib.Core.Option.{none}
use mathlib.Core.Bool.{true, false, not, false≢true}
use mathlib.Core.List.{List}
use Prim.Native.Nat.{ℕ, ◌+◌, ◌*◌, ◌<◌, ◌≤◌}
use native.Mathlib.Omega.{arith}
use borrow.Author.Tests.{eq-eqb, ne_eqb, eqb-true, not-true, not-false}
use lib.Dec.{eqb}
use lib.ListN.{length, get_or}
use lib.IntN.{ℤ}
use Rattle.laws.proofs.Every.{any_some, any_true, every_in}
use Rattle.laws.proofs.Members.{In, nowhere, where_in}
use Rattle.paper.specs.Rows.{Row, rows_in, states}
use Rattle.paper.specs.Checks.{any, row_fits}
use Rattle.rows.proofs.Fits.{fit}
use Rattle.rows.specs.Places.{row_at, rest}
use Rattle.rows.proofs.Rest.{rest_cons, rest_end}
use Rattle.ruled.specs.Into.{Marked, leads}
use Rattle.counts.specs.Arrays.{Fitting}
use Rattle.ruled.proofs.Firsts.{into_any}
use Rattle.merging.proofs.States.{zero_state, to_state, in_states}
use Rattle.shrink_alike.specs.States.{Tells, State, Topped}
use Rattle.shrink_alike.specs.Faces.{coded}

-- a state is within its bounds
pub state_small : (ns : List ℤ) → Fitting ns → (s : ℕ) → In s (states (rows_in ns)) → s < 1024
state_small ns f s i = ⊎_elim
    (λ e. omega (arith, e))
    (λ k. let b = fit k.0 (every_in row_fits (rows_in ns) f.fits k.0 k.1) in omega (arith, b.to, k.2))
    (in_states (rows_in ns) s i)

module _ (ns : List ℤ) (into : List ℕ) (m : Marked ns into) (s : ℕ) (l : s < 1024) where
  leads_as : eqb (get_or into s 0) 0 ≡ not (any (leads s) (rows_in ns))
  leads_as = ap (λ (x : ℕ). eqb x 0) (m.held s l) ∙ into_any ns s

  entered_state : (get_or into s 0 ≡ 0 → ⊥) → In s (states (rows_in ns))
  entered_state z =
      let h = any_some (leads s) (rows_in ns) (not-false _ (sym leads_as ∙ ne_eqb (get_or into s 0) 0 z)) in
      subst (λ (x : ℕ). In x (states (rows_in ns))) (eqb-true h.0.to s h.2)
      (to_state (rows_in ns) h.0 h.1)

  entered_only : get_or into s 0 ≡ 0 → (s ≡ 0 → ⊥) → In s (states (rows_in ns)) → ⊥
  entered_only z d i = ⊎_elim d
      (λ k.
      let a = any_true (leads s) (rows_in ns) k.0 k.1 (eq-eqb k.0.to s k.2) in
      let b : any (leads s) (rows_in ns) ≡ false = not-true _ (sym leads_as ∙ eq-eqb (get_or into s 0) 0 z) in
      false≢true (sym b ∙ a))
      (in_states (rows_in ns) s i)

pub tells_zero : (ns : List ℤ) (s : ℕ) → s ≡ 0 → Tells (State (coded none ns) s) true
tells_zero ns s e = record {
  yes = λ _. subst (λ (x : ℕ). In x (states (rows_in ns))) (sym e) (zero_state (rows_in ns));
  no = λ f. absurd (false≢true (sym f));
}

pub tells_entered : (ns : List ℤ) (into : List ℕ) → Marked ns into → (s : ℕ) → s < 1024
    → (s ≡ 0 → ⊥) → Tells (State (coded none ns) s) (not (eqb (get_or into s 0) 0))
tells_entered ns into m s l d = record {
  yes = λ f. entered_state ns into m s l (λ z. false≢true (sym (not-true _ f) ∙ eq-eqb (get_or into s 0) 0 z));
  no = λ f. entered_only ns into m s l (eqb-true (get_or into s 0) 0 (not-false _ f)) d;
}

-- ---- one more than the highest state

-- The rows lead to states below top.
pub record Below (rs : List Row) (top : ℕ) : Type 0 where
  pub some : 1 ≤ top
  pub few : top ≤ 1024
  pub rows : (r : Row) → In r rs → r.to < top

pub below_none : (ns : List ℤ) (i : ℕ) → length ns < i * 4 + 4 → Below (rest ns i) 1
below_none ns i h = record {
  some = omega arith;
  few = omega arith;
  rows = λ r k. absurd (nowhere (rw (rest_end ns i h) at k));
}

-- one row more, taken before those
pub below_more : (ns : List ℤ) (i k t u : ℕ) → i + 1 ≡ k → i * 4 + 3 < length ns → Below (rest ns k) t
    → t ≤ u → u ≤ 1024 → (row_at ns i).to < u → Below (rest ns i) u
below_more ns i k t u e l b m n o = record {
  some = omega (arith, b.some);
  few = n;
  rows = λ r j. ⊎_elim
      (λ q. omega (arith, o, ap (λ (x : Row). x.to) q))
      (λ j. omega (arith, m, b.rows r (rw e at j)))
      (where_in (rw (rest_cons ns i l) at j));
}

pub below_topped : {rs : List Row} {top : ℕ} → Below rs top → Topped rs top
below_topped {rs} b = record {
  some = b.some;
  few = b.few;
  all = λ s i. ⊎_elim
      (λ e. omega (arith, e, b.some))
      (λ k. omega (arith, b.rows k.0 k.1, k.2))
      (in_states rs s i);
}
