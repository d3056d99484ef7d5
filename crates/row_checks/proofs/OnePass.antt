-- Rows within their bounds, read one after the other: they rise unless one fell. Assumes nothing.
use mathlib.Core.Path.{◌≡◌, refl, sym, ap, subst, ◌∙◌}
use mathlib.Core.Logic.{⊎_elim, ◌⊎◌}
use mathlib.Core.Bool.{Bool, true, false, not, ◌&&◌}
use mathlib.Core.List.{List}
use Prim.Native.Nat.{ℕ, zero, suc, ◌+◌, ◌*◌, ◌≤◌, ◌<◌}
use native.Mathlib.Omega.{arith}
use native.Mathlib.Numerals.{add-one}
use lib.ListN.{length}
use lib.IntN.{ℤ}
use Rattle.paper.specs.Rows.{rows_in}
use Rattle.paper.specs.Checks.{every, row_fits, rising}
use Rattle.rows.specs.Places.{row_at, rest, key}
use Rattle.rows.proofs.Keys.{rising_next, rising_fails, rising_end}

and_false : (b : Bool) → (b && false) ≡ false
and_false true = refl
and_false false = refl

not_and_true : (b : Bool) → not (not b && true) ≡ b
not_and_true true = refl
not_and_true false = refl

-- the place before
abbrev before : ℕ → ℕ
before zero = 0
before (suc i) = i

module _ (ns : List ℤ) where
  -- one above the key of the row before i; 0 before the first
  abbrev pub above : ℕ → ℕ
  above zero = 0
  above (suc i) = key (row_at ns i) + 1

  -- the rows rise exactly when none before i fell and those from the last of them on rise
  abbrev pub Risen : Bool → ℕ → Type 0
  Risen falls i = every row_fits (rows_in ns) ≡ true → rising (rows_in ns) ≡ (not falls && rising (rest ns (before i)))

  risen_falls : (falls : Bool) (i : ℕ) → i * 4 + 3 < length ns → key (row_at ns i) < above i → Risen falls i
      → Risen true (suc i)
  risen_falls falls zero l h r f = absurd (omega (arith, h))
  risen_falls falls (suc j) l h r f =
      let k : key (row_at ns (j + 1)) ≤ key (row_at ns j) = rw (add-one j) (omega (arith, h)) in
      r f ∙ ap (λ (b : Bool). not falls && b) (rising_fails ns j f (omega arith) k) ∙ and_false (not falls)

  risen_on : (falls : Bool) (i : ℕ) → i * 4 + 3 < length ns → above i ≤ key (row_at ns i) → Risen falls i
      → Risen falls (suc i)
  risen_on falls zero l h r f = r f
  risen_on falls (suc j) l h r f =
      let k : key (row_at ns j) < key (row_at ns (j + 1)) = rw (add-one j) (omega (arith, h)) in
      r f ∙ ap (λ (b : Bool). not falls && b) (rising_next ns j f (omega arith) k ∙ rw (add-one j))

  -- one row more, which fell or did not
  pub risen_next : (falls now : Bool) (i x : ℕ) → i * 4 + 3 < length ns → x ≡ key (row_at ns i)
      → ((x < above i) × (now ≡ true)) ⊎ ((above i ≤ x) × (now ≡ falls)) → Risen falls i → Risen now (i + 1)
  risen_next falls now i x l e w r = rw (add-one i) (⊎_elim
      (λ h. subst (λ (b : Bool). Risen b (suc i)) (sym h.1) (risen_falls falls i l (rw (← e) h.0) r))
      (λ h. subst (λ (b : Bool). Risen b (suc i)) (sym h.1) (risen_on falls i l (rw (← e) h.0) r))
      w)

  pub above_next : (i x : ℕ) → x ≡ key (row_at ns i) → x + 1 ≡ above (i + 1)
  above_next i x e = rw (add-one i) (ap (λ (k : ℕ). k + 1) e)

  pub risen_last : (falls : Bool) (i : ℕ) → length ns < i * 4 + 4 → Risen falls i → every row_fits (rows_in ns) ≡ true
      → not (rising (rows_in ns)) ≡ falls
  risen_last falls i l r f =
      ap not (r f ∙ ap (λ (b : Bool). not falls && b) (rising_end ns (before i) (last i l))) ∙ not_and_true falls
    where
      last : (i : ℕ) → length ns < i * 4 + 4 → length ns < before i * 4 + 8
      last zero l = omega arith
      last (suc i) l = omega arith
