-- A branching finder with one row more, from a state that is reached to a fresh one: exactly one path more.
-- Assumes nothing.
use mathlib.Core.Path.{◌≡◌, refl, sym, ◌∙◌, ap}
use mathlib.Core.Logic.{⊎_elim, ◌⊎◌, inl, inr}
use mathlib.Core.Option.{Option, none, some}
use mathlib.Core.List.{List, [], ◌∷◌, List-discrete, nil≢cons}
use Prim.Native.Nat.{ℕ, suc, ◌≤◌, ◌<◌}
use native.Mathlib.Omega.{arith}
use native.Mathlib.Decide.{ℕ_discrete}
use lib.ListN.{length}
use lib.Dec.{eqb}
use Rattle.laws.proofs.Tests.{Test, same, apart, test, never}
use Rattle.paper.specs.Rows.{Row}
use Rattle.trees.specs.Reach.{Seat, Finder, sit, seat_of, onward}
use Rattle.trees.proofs.Paths.{path, onward_some, onward_none, Branching, Capped, unique}

-- f' is f with the row r more, by the terminal t₀ from the state that w₀ leads to.
pub record Grown (p : Option ℕ) (f f' : Finder) (w₀ : List ℕ) (x₀ : Seat) (t₀ : ℕ) (r : Row) : Type 0 where
  pub tree : Branching f
  pub at₀ : path p f w₀ ≡ some x₀
  pub new : f x₀.state t₀ ≡ none
  pub here : f' x₀.state t₀ ≡ some r
  pub elsewhere : (s t : ℕ) → ((s ≡ x₀.state) × (t ≡ t₀) → ⊥) → f' s t ≡ f s t
  pub rise : x₀.state < r.to
  pub bare : (t : ℕ) → f r.to t ≡ none
  pub fresh : (s t : ℕ) (r' : Row) → f s t ≡ some r' → r'.to ≡ r.to → ⊥

module _ (p : Option ℕ) (f f' : Finder) (w₀ : List ℕ) (x₀ : Seat) (t₀ : ℕ) (r : Row)
    (g : Grown p f f' w₀ x₀ t₀ r) where
  same_at : (s t : ℕ) → (f' s t ≡ f s t) ⊎ ((s ≡ x₀.state) × (t ≡ t₀))
  same_at s t = go (test s x₀.state) (test t t₀)
    where
      go : Test s x₀.state (eqb s x₀.state) → Test t t₀ (eqb t t₀) →
          (f' s t ≡ f s t) ⊎ ((s ≡ x₀.state) × (t ≡ t₀))
      go (same e _) (same e' _) = inr (e, e')
      go (same e _) (apart h _) = inl (g.elsewhere s t (λ k. h k.1))
      go (apart h _) b = inl (g.elsewhere s t (λ k. h k.0))

  longer : (w : List ℕ) → w ≡ w₀ → w ≡ t₀ ∷ w₀ → ⊥
  longer w e e' =
      let z : length w ≡ suc (length w) = ap length e' ∙ ap (λ (v : List ℕ). suc (length v)) (sym e) in
      omega arith

  before : path p f (t₀ ∷ w₀) ≡ none
  unfolding path
  before = onward_none f (path p f w₀) t₀ x₀ g.at₀ g.new

  -- a path keeps off the new row, or ends in it
  grown : (w : List ℕ) →
      ((w ≡ t₀ ∷ w₀ → ⊥) → path p f' w ≡ path p f w) × (w ≡ t₀ ∷ w₀ → path p f' w ≡ some (sit r))
  unfolding path onward
  grown [] = (λ h. refl, λ e. absurd (nil≢cons e))
  grown (t ∷ w) = (λ h. off h (List-discrete ℕ_discrete w (t₀ ∷ w₀)) (grown w).0 (grown w).1, λ e. on e (grown w).0)
    where
      step : Finder → Option Seat → Option Seat
      step h o = onward h o t

      on : t ∷ w ≡ t₀ ∷ w₀ → ((w ≡ t₀ ∷ w₀ → ⊥) → path p f' w ≡ path p f w) → path p f' (t ∷ w) ≡ some (sit r)
      on e ih =
          let e₁ : w ≡ w₀ = cc in
          let e₂ : t ≡ t₀ = cc in
          let a : path p f' w ≡ some x₀ = ih (longer w e₁) ∙ ap (path p f) e₁ ∙ g.at₀ in
          onward_some f' (path p f' w) t x₀ a r (ap (f' x₀.state) e₂ ∙ g.here)

      past : (o : Option Seat) → path p f w ≡ o → path p f' w ≡ path p f w → (t ∷ w ≡ t₀ ∷ w₀ → ⊥) →
          path p f' (t ∷ w) ≡ path p f (t ∷ w)
      past none e ih h = ap (step f') (ih ∙ e) ∙ sym (ap (step f) e)
      past (some y) e ih h =
          let other : f' y.state t ≡ f y.state t = ⊎_elim
          (λ k. k)
          (λ k. absurd (h (cc (unique p f g.tree w w₀ y x₀ e g.at₀ k.0, k.1))))
          (same_at y.state t) in
          ap (step f') (ih ∙ e) ∙ ap seat_of other ∙ sym (ap (step f) e)

      off : (t ∷ w ≡ t₀ ∷ w₀ → ⊥) → Dec (w ≡ t₀ ∷ w₀) → ((w ≡ t₀ ∷ w₀ → ⊥) → path p f' w ≡ path p f w) →
          (w ≡ t₀ ∷ w₀ → path p f' w ≡ some (sit r)) → path p f' (t ∷ w) ≡ path p f (t ∷ w)
      off h (yes e) ih ih' =
          let b : f' r.to t ≡ none = g.elsewhere r.to t (λ k. omega (arith, k.0, g.rise)) ∙ g.bare t in
          onward_none f' (path p f' w) t (sit r) (ih' e) b ∙ sym (ap (step f) (ap (path p f) e ∙ before))
      off h (no k) ih ih' = past (path p f w) refl (ih k) h

  pub grown_other : (w : List ℕ) → (w ≡ t₀ ∷ w₀ → ⊥) → path p f' w ≡ path p f w
  grown_other w = (grown w).0

  pub grown_here : path p f' (t₀ ∷ w₀) ≡ some (sit r)
  grown_here = (grown (t₀ ∷ w₀)).1 refl

  pub grown_before : path p f (t₀ ∷ w₀) ≡ none
  grown_before = before

  pub row_at : (s t : ℕ) (r' : Row) → f' s t ≡ some r' →
      (f s t ≡ some r') ⊎ ((s ≡ x₀.state) × (t ≡ t₀) × (r' ≡ r))
  row_at s t r' e = ⊎_elim (λ k. inl (sym k ∙ e)) (λ k. inr (k.0, k.1, cc (k.0, k.1, g.here))) (same_at s t)

  -- what was reached before is reached as before
  pub grown_keeps : (w : List ℕ) (x : Seat) → path p f w ≡ some x → path p f' w ≡ some x
  grown_keeps w x e = grown_other w (λ k. never (sym before ∙ ap (path p f) (sym k) ∙ e)) ∙ e

  pub grown_tree : Branching f'
  grown_tree = record { up = up; one = one }
    where
      There : ℕ → ℕ → Row → Type 0
      There s t x = (f s t ≡ some x) ⊎ ((s ≡ x₀.state) × (t ≡ t₀) × (x ≡ r))

      up : (s t : ℕ) (r' : Row) → f' s t ≡ some r' → s < r'.to
      up s t r' e = ⊎_elim (λ k. g.tree.up s t r' k) (λ k. rw (k.0, k.2) g.rise) (row_at s t r' e)

      one : (s t s' t' : ℕ) (r₁ r₂ : Row) → f' s t ≡ some r₁ → f' s' t' ≡ some r₂ → r₁.to ≡ r₂.to →
          (s ≡ s') × (t ≡ t')
      one s t s' t' r₁ r₂ e₁ e₂ e = go (row_at s t r₁ e₁) (row_at s' t' r₂ e₂)
        where
          go : There s t r₁ → There s' t' r₂ → (s ≡ s') × (t ≡ t')
          go (inl a) (inl b) = g.tree.one s t s' t' r₁ r₂ a b e
          go (inl a) (inr b) = absurd (g.fresh s t r₁ a (e ∙ ap (λ (x : Row). x.to) b.2))
          go (inr a) (inl b) = absurd (g.fresh s' t' r₂ b (sym e ∙ ap (λ (x : Row). x.to) a.2))
          go (inr a) (inr b) = (a.0 ∙ sym b.0, a.1 ∙ sym b.1)

  pub grown_cap : (n : ℕ) → Capped f n → n ≤ r.to → Capped f' r.to
  grown_cap n cap l s t r' e =
      ⊎_elim (λ k. omega (arith, cap s t r' k)) (λ k. rw k.2 (omega arith)) (row_at s t r' e)
