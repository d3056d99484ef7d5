-- Slots that hold the kept states: how many are empty, what a walk past them shows, and one state more put in.
-- Assumes nothing.
use mathlib.Core.Path.{◌≡◌, refl, sym, ap, ◌∙◌}
use mathlib.Core.Bool.{Bool, true, false, not, false≢true}
use mathlib.Core.List.{List, [], ◌∷◌}
use Prim.Native.Nat.{ℕ, zero, suc, ◌+◌, ◌≤◌, ◌<◌}
use native.Mathlib.Omega.{arith}
use borrow.Author.Tests.{eq-eqb, ne_eqb}
use lib.ListN.{length, get_or, set}
use lib.Seq.{get_or-set_same, get_or-set_other}
use Rattle.rows.proofs.Rest.{by_test}
use Rattle.rows.proofs.Keys.{compared}
use Rattle.counts.proofs.Arrays.{by_equal}
use Rattle.shrink_slots.specs.Slots.{slot, empty_in, Open, passes, Walks, Stops, Stands}
use Rattle.shrink_slots.proofs.Walked.{slot_small, slot_met}

-- ---- how many are empty

-- an empty slot counts, another does not
empty_yes : (x : ℕ) (xs : List ℕ) → x ≡ 65535 → empty_in (x ∷ xs) ≡ suc (empty_in xs)
unfolding empty_in
empty_yes x xs e = rw (eq-eqb x 65535 e)

empty_no : (x : ℕ) (xs : List ℕ) → (x ≡ 65535 → ⊥) → empty_in (x ∷ xs) ≡ empty_in xs
unfolding empty_in
empty_no x xs d = rw (ne_eqb x 65535 d)

empty_few : (x : ℕ) (xs : List ℕ) → (empty_in xs ≤ empty_in (x ∷ xs)) × (empty_in (x ∷ xs) ≤ empty_in xs + 1)
empty_few x xs = by_equal x 65535
    (λ e. (omega (arith, empty_yes x xs e), omega (arith, empty_yes x xs e)))
    (λ d. (omega (arith, empty_no x xs d), omega (arith, empty_no x xs d)))

pub empty_all : (xs : List ℕ) → ((i : ℕ) → i < length xs → get_or xs i 0 ≡ 65535) → empty_in xs ≡ length xs
unfolding empty_in
empty_all [] h = refl
empty_all (x ∷ xs) h =
    empty_yes x xs (h 0 (omega arith)) ∙ ap suc (empty_all xs (λ i l. h (suc i) (omega arith)))

-- a slot that is filled is one empty slot less
pub empty_put : (xs : List ℕ) (i v : ℕ) → empty_in xs ≤ empty_in (set xs i v) + 1
unfolding empty_in
empty_put [] i v = omega arith
empty_put (x ∷ xs) zero v = omega (arith, (empty_few x xs).1, (empty_few v xs).0)
empty_put (x ∷ xs) (suc i) v = by_equal x 65535
    (λ e. omega (arith, empty_yes x xs e, empty_yes x (set xs i v) e, empty_put xs i v))
    (λ d. omega (arith, empty_no x xs d, empty_no x (set xs i v) d, empty_put xs i v))

pub empty_some : (xs : List ℕ) → 1 ≤ empty_in xs → (i : ℕ) × (i < length xs) × (get_or xs i 0 ≡ 65535)
unfolding empty_in
empty_some [] h = absurd (omega arith)
empty_some (x ∷ xs) h = by_equal x 65535
    (λ e. (0, omega arith, e))
    (λ d.
    let (i, l, e) = empty_some xs (omega (arith, empty_no x xs d)) in
    (suc i, omega arith, e))

-- ---- a walk

module _ (same : ℕ → ℕ → Bool) (slots : List ℕ) (s : ℕ) where
  pub passes_empty : (at c : ℕ) → c ≡ get_or slots at 0 → c ≡ 65535 → false ≡ passes same slots s at
  unfolding passes
  passes_empty at c e z = rw (eq-eqb (get_or slots at 0) 65535 (sym e ∙ z))

  pub passes_held : (at c : ℕ) (b : Bool) → c ≡ get_or slots at 0 → (c ≡ 65535 → ⊥) → b ≡ same s c
      → not b ≡ passes same slots s at
  unfolding passes
  passes_held at c b e d q = rw (ne_eqb (get_or slots at 0) 65535 (λ z. d (e ∙ z)), ← e, q)

  -- a slot that is passed is not empty, and its state is not like s
  passed_held : (at : ℕ) → passes same slots s at ≡ true → get_or slots at 0 ≡ 65535 → ⊥
  passed_held at e z = false≢true (passes_empty at (get_or slots at 0) refl z ∙ e)

  passed_unlike : (at : ℕ) → passes same slots s at ≡ true → same s (get_or slots at 0) ≡ true → ⊥
  passed_unlike at e y =
      false≢true (passes_held at (get_or slots at 0) true refl (passed_held at e) (sym y) ∙ e)

  -- a state where the walk stops is like s
  pub stop_like : (at : ℕ) → passes same slots s at ≡ false → (get_or slots at 0 ≡ 65535 → ⊥)
      → same s (get_or slots at 0) ≡ true
  stop_like at e d = by_test (same s (get_or slots at 0))
      (λ y. y)
      (λ n. absurd (false≢true (sym e ∙ sym (passes_held at (get_or slots at 0) false refl d (sym n)))))

module _ {same : ℕ → ℕ → Bool} {slots : List ℕ} {s g d at : ℕ} (w : Walks same slots s g d at)
    (p : passes same slots s at ≡ true) where
  walk_past : (e : ℕ) → e < d + 1 → passes same slots s (slot g e) ≡ true
  walk_past e l = compared e d
      (λ k. w.before e k)
      (λ q. ap (λ (x : ℕ). passes same slots s (slot g x)) q ∙ ap (passes same slots s) (sym w.stands) ∙ p)
      (λ k. absurd (omega arith))

  -- an empty slot is still to come
  pub walk_near : Open slots → d + 1 < 1024
  walk_near o =
      let (i, l, z) = empty_some slots o.room in
      let (e, m, q) = slot_met g i (omega (arith, l, o.sized)) in
      let gone : e < d + 1 → ⊥ = λ k. passed_held same slots s (slot g e) (walk_past e k)
      (ap (λ (x : ℕ). get_or slots x 0) q ∙ z) in
      compared d e (λ k. omega arith) (λ k. absurd (gone (omega (arith, k)))) (λ k. absurd (gone (omega arith)))

  pub walk_next : (next : ℕ) → Open slots → next ≡ slot g (d + 1) → Walks same slots s g (d + 1) next
  walk_next next o e = record { near = walk_near o; stands = e; before = walk_past }

-- ---- the walk stops

pub stop_inside : {same : ℕ → ℕ → Bool} {slots : List ℕ} {s g at : ℕ} → Stops same slots s g at → at < 1024
stop_inside {same} {slots} {s} {g} w = omega (arith, w.walked.stands, slot_small g w.far)

module _ {same : ℕ → ℕ → Bool} {slots : List ℕ} {s g at : ℕ} (w : Stops same slots s g at)
    (z : get_or slots at 0 ≡ 65535) where
  empty_far : get_or slots (slot g w.far) 0 ≡ 65535
  empty_far = ap (λ (x : ℕ). get_or slots x 0) (sym w.walked.stands) ∙ z

  -- no kept state of that number is like s
  pub stop_unlike : (u : ℕ) → u < 1024 → Stands slots g u → same s u ≡ true → ⊥
  stop_unlike u l k y = compared k.far w.far
      (λ m. passed_unlike same slots s (slot g k.far) (w.walked.before k.far m) (ap (same s) k.here ∙ y))
      (λ q.
      let e : 65535 ≡ u = sym empty_far ∙ ap (λ (x : ℕ). get_or slots (slot g x) 0) (sym q) ∙ k.here in
      omega (arith, e))
      (λ m. k.before w.far m empty_far)

-- ---- one state more

module _ (slots : List ℕ) (at : ℕ) (z : get_or slots at 0 ≡ 65535) (s : ℕ) where
  -- a slot that was not empty is as before
  as_before : (i : ℕ) → (get_or slots i 0 ≡ 65535 → ⊥) → get_or (set slots at s) i 0 ≡ get_or slots i 0
  as_before i d = get_or-set_other slots at i s 0 (λ e. d (ap (λ (x : ℕ). get_or slots x 0) e ∙ z))

  still_held : (i : ℕ) → (get_or slots i 0 ≡ 65535 → ⊥) → get_or (set slots at s) i 0 ≡ 65535 → ⊥
  still_held i d e = d (sym (as_before i d) ∙ e)

  pub stand_on : {g u : ℕ} → u < 1024 → Stands slots g u → Stands (set slots at s) g u
  stand_on {g} {u} m k = record {
    far = k.far;
    here = as_before (slot g k.far) (λ e. omega (arith, e, k.here)) ∙ k.here;
    before = λ e h. still_held (slot g e) (k.before e h);
  }

  pub stand_new : {same : ℕ → ℕ → Bool} {g : ℕ} → length slots ≡ 1024 → Stops same slots s g at
      → Stands (set slots at s) g s
  stand_new {same} {g} n w = record {
    far = w.far;
    here = ap (λ (x : ℕ). get_or (set slots at s) x 0) (sym w.walked.stands)
        ∙ get_or-set_same slots at s 0 (omega (arith, n, stop_inside w));
    before = λ e h. still_held (slot g e) (passed_held same slots s (slot g e) (w.walked.before e h));
  }
