-- A word at a place of a line. Assumes nothing.
use Prim.Native.Nat.{ℕ, ◌+◌, ◌≤◌}
use mathlib.Core.Path.{◌≡◌, refl, ap, sym, ◌∙◌}
use mathlib.Core.Bool.{Bool, true, false, cond, ◌&&◌, true≢false}
use mathlib.Core.Option.{none, some}
use mathlib.Core.Option as option
use Rattle.std.specs.Prelude.{Option, Some, None}
use mathlib.Core.List.{List, [], ◌∷◌}
use native.Mathlib.Omega.{arith}
use borrow.Author.Tests.{eq-eqb, ne_eqb, eqb-true, eqb-false}
use lib.Dec.{eqb, eqb-zero-suc, eqb-suc-suc}
use lib.ListN.{length, take, drop, length-drop}
use Rattle.std.specs.Bool.{then_some}
use Rattle.std.specs.Cmp.Lexicographic.{pointwise}
use Rattle.paper.specs.Text.{past}
use Rattle.rows.proofs.Rest.{by_test}
use Rattle.text_pieces.specs.Pieces.{is_some, starts, past_word, ends_at}

-- the test of std, on the front
pub starts_is : (w bs : List ℕ) → pointwise eqb w (take (length w) bs) ≡ starts w bs
unfolding starts past
starts_is [] bs = refl
starts_is (w ∷ ws) [] = refl
starts_is (w ∷ ws) (b ∷ bs) = by_test (eqb w b) (λ e. rw e (starts_is ws bs)) (λ e. rw e)

pub then_cond : {A : Type 0} (b : Bool) (x : A) → then_some b x ≡ cond b (Some x) None
then_cond true x = refl
then_cond false x = refl

-- a word that is all of the rest
whole_is : (w bs : List ℕ) → pointwise eqb bs w ≡ (starts w bs && eqb (length w) (length bs))
unfolding starts past
whole_is [] [] = refl
whole_is [] (b ∷ bs) = sym (eqb-zero-suc (length bs))
whole_is (w ∷ ws) [] = refl
whole_is (w ∷ ws) (b ∷ bs) = by_test (eqb w b)
    (λ e. let f : eqb b w ≡ true = eq-eqb b w (sym (eqb-true w b e)) in rw (e, f, eqb-suc-suc (length ws) (length bs)) (whole_is ws bs))
    (λ e. let f : eqb b w ≡ false = ne_eqb b w (λ h. eqb-false w b e (sym h)) in rw (e, f))

past_on : (w b : ℕ) (ws bs : List ℕ) → eqb w b ≡ true → past (w ∷ ws) (b ∷ bs) ≡ past ws bs
unfolding past
past_on w b ws bs e = ap (λ (t : Bool). cond t (past ws bs) none) e

past_off : (w b : ℕ) (ws bs : List ℕ) → eqb w b ≡ false → past (w ∷ ws) (b ∷ bs) ≡ none
unfolding past
past_off w b ws bs e = ap (λ (t : Bool). cond t (past ws bs) none) e

-- what follows a word, by its length
pub past_starts : (w bs : List ℕ) → past w bs ≡ cond (starts w bs) (some (drop (length w) bs)) none
unfolding past starts
past_starts [] bs = refl
past_starts (w ∷ ws) [] = refl
past_starts (w ∷ ws) (b ∷ bs) =
    let after : option.Option (List ℕ) → option.Option (List ℕ) = λ o. cond (is_some o) (some (drop (length ws) bs)) none in
    by_test (eqb w b)
    (λ e. past_on w b ws bs e ∙ past_starts ws bs ∙ ap after (sym (past_on w b ws bs e)))
    (λ e. past_off w b ws bs e ∙ ap after (sym (past_off w b ws bs e)))

pub starts_length : (w bs : List ℕ) → starts w bs ≡ true → length w ≤ length bs
unfolding past starts
starts_length [] bs e = omega arith
starts_length (w ∷ ws) [] e = absurd (true≢false (sym e))
starts_length (w ∷ ws) (b ∷ bs) e = by_test (eqb w b)
    (λ f. omega (arith, starts_length ws bs (sym (ap is_some (past_on w b ws bs f)) ∙ e)))
    (λ f. absurd (true≢false (sym e ∙ ap is_some (past_off w b ws bs f))))

pub starts_within : (w l : List ℕ) (at : ℕ) → at ≤ length l → starts w (drop at l) ≡ true → at + length w ≤ length l
starts_within w l at h e = omega (arith, starts_length w (drop at l) e, length-drop at l)

pub ends_is : (w l : List ℕ) (at : ℕ) → at ≤ length l → pointwise eqb (drop at l) w ≡ ends_at l at w
unfolding ends_at
ends_is w l at h =
    whole_is w (drop at l)
    ∙ ap (λ (b : Bool). starts w (drop at l) && b)
    (by_test (eqb (length w) (length (drop at l)))
    (λ e. e ∙ sym (eq-eqb (at + length w) (length l) (omega (arith, eqb-true _ _ e, length-drop at l))))
    (λ e.
    let d = eqb-false _ _ e in
    e ∙ sym (ne_eqb (at + length w) (length l) (λ g. d (omega (arith, g, length-drop at l))))))

-- where a word was found
pub past_found : (w l : List ℕ) (at n : ℕ) → at ≤ length l → past_word l at w ≡ Some n →
    (starts w (drop at l) ≡ true) × (n ≡ at + length w) × (n ≤ length l)
unfolding past_word
past_found w l at n h e = by_test (starts w (drop at l))
    (λ f.
    let g : ◌≡◌ {A = Option ℕ} (Some (at + length w)) (Some n) = rw f at e in
    let k : at + length w ≡ n = cc in
    (f, sym k, rw (← k) (starts_within w l at h f)))
    (λ f. let g : ◌≡◌ {A = Option ℕ} None (Some n) = rw f at e in let z : ◌≡◌ {A = ℕ} 0 1 = cc in absurd (omega arith))

pub past_missed : (w l : List ℕ) (at : ℕ) → past_word l at w ≡ None → starts w (drop at l) ≡ false
unfolding past_word
past_missed w l at e = by_test (starts w (drop at l))
    (λ f.
    let g : ◌≡◌ {A = Option ℕ} (Some (at + length w)) None = rw f at e in
    let z : ◌≡◌ {A = ℕ} 0 1 = cc in
    absurd (omega arith))
    (λ f. f)
