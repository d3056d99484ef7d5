-- The words of strings: a string is claimed under its production, and its beginnings are beginnings. Assumes nothing.
use mathlib.Core.Path.{◌≡◌, refl, sym, ◌∙◌, ap}
use mathlib.Core.Logic.{⊎_elim, ◌⊎◌, inl, inr}
use mathlib.Core.Option.{Option, none, some}
use mathlib.Core.List.{List, [], ◌∷◌, ◌++◌, append-nil, reverse, reverse_aux, reverse-reverse, List-discrete}
use mathlib.Core.List.Memᴰ
use Prim.Native.Nat.{ℕ}
use native.Mathlib.Decide.{ℕ_discrete}
use Rattle.laws.proofs.Members.{In, here, there, nowhere, where_in}
use Rattle.laws.proofs.Tests.{never}
use Rattle.paper.specs.declared.Mode.TheVariants.{Intake}
use Rattle.paper.specs.Predict.{or_else}
use Rattle.trees.specs.Reach.{Word}
use Rattle.trees.specs.Views.{merge, join}
use Rattle.trees.specs.Says.{Begins}
use Rattle.trees.proofs.Words.{only, only_here, only_off, join_claim, join_dom, join_left, join_right}
use Rattle.trees.proofs.Words.{claim_left, claim_right}
use Rattle.trees.proofs.Built.{along, string_word, strings_word}

pub blank : (u v : List ℕ) → (only u none v ≡ none) ⊎ (only u none v ≡ some none)
blank u v = go (List-discrete ℕ_discrete v u)
  where
    go : Dec (v ≡ u) → (only u none v ≡ none) ⊎ (only u none v ≡ some none)
    go (yes e) = inr (only_here u v none e)
    go (no n) = inl (only_off u v none n)

join_blank : (x y : Word) → (x ≡ none) ⊎ (x ≡ some none) → y ≡ some none → join Intake x y ≡ some none
unfolding join merge or_else
join_blank x y (inl e) f = rw (e, f)
join_blank x y (inr e) f = rw (e, f)

-- v is a beginning of σ, longer than none, behind w
abbrev OnWay : List ℕ → List ℕ → List ℕ → Type 0
OnWay σ w v = (a : List ℕ) × (b : List ℕ) × (σ ≡ a ++ b) × (v ≡ reverse_aux a w)

along_sound : (σ w v : List ℕ) (x : Option ℕ) → along w σ v ≡ some x → (x ≡ none) × OnWay σ w v
unfolding along join merge or_else
along_sound [] w v x e = absurd (never e)
along_sound (t ∷ σ) w v x e =
    go (List-discrete ℕ_discrete v (t ∷ w)) (along (t ∷ w) σ v) refl e (along_sound σ (t ∷ w) v)
  where
    go : Dec (v ≡ t ∷ w) → (y : Word) → along (t ∷ w) σ v ≡ y → join Intake (only (t ∷ w) none v) y ≡ some x →
        ((x : Option ℕ) → along (t ∷ w) σ v ≡ some x → (x ≡ none) × OnWay σ (t ∷ w) v) →
        (x ≡ none) × OnWay (t ∷ σ) w v
    go (yes k) none l m ih =
        let m' : some none ≡ some x = rw (only_here (t ∷ w) v none k) at m in
        (cc, (t ∷ [], σ, refl, k))
    go (yes k) (some y) l m ih =
        let m' : some (merge Intake none y) ≡ some x = rw (only_here (t ∷ w) v none k) at m in
        let y₀ : y ≡ none = (ih y l).0 in
        let p : merge Intake none y ≡ none = ap (merge Intake none) y₀ in
        (cc, (t ∷ [], σ, refl, k))
    go (no k) y l m ih =
        let m' : y ≡ some x = rw (only_off (t ∷ w) v none k) at m in
        let (h, on) = ih x (l ∙ m') in
        let (a, b, e₁, e₂) = on in
        (h, (t ∷ a, b, ap (λ (z : List ℕ). t ∷ z) e₁, e₂))

along_complete : (a b w : List ℕ) (t : ℕ) → along w (t ∷ (a ++ b)) (reverse_aux a (t ∷ w)) ≡ some none
unfolding along join merge or_else
along_complete [] b w t = rw (only_here (t ∷ w) (t ∷ w) none refl) (go (along (t ∷ w) b (t ∷ w)) refl)
  where
    go : (y : Word) → along (t ∷ w) b (t ∷ w) ≡ y → join Intake (some none) y ≡ some none
    go none e = refl
    go (some y) e = ap (λ (z : Option ℕ). some (merge Intake none z)) (along_sound b (t ∷ w) (t ∷ w) y e).0
along_complete (u ∷ a) b w t =
    let v : List ℕ = reverse_aux a (u ∷ t ∷ w) in
    join_blank (only (t ∷ w) none v) (along (t ∷ w) (u ∷ (a ++ b)) v) (blank (t ∷ w) v) (along_complete a b (t ∷ w) u)

-- ---- one string
module _ (q : ℕ) where
  string_claim : (σ p : List ℕ) (q' : ℕ) → string_word q σ (reverse p) ≡ some (some q') → (p ≡ σ) × (q ≡ q')
  unfolding string_word
  string_claim σ p q' e = go (List-discrete ℕ_discrete (reverse p) (reverse σ))
      (join_claim (along [] σ (reverse p)) (only (reverse σ) (some q) (reverse p)) q' e)
    where
      back : reverse p ≡ reverse σ → p ≡ σ
      back h = sym (reverse-reverse p) ∙ ap reverse h ∙ reverse-reverse σ

      go : Dec (reverse p ≡ reverse σ) →
          (along [] σ (reverse p) ≡ some (some q')) ⊎ (only (reverse σ) (some q) (reverse p) ≡ some (some q')) →
          (p ≡ σ) × (q ≡ q')
      go d (inl k) = absurd (never (sym (along_sound σ [] (reverse p) (some q') k).0))
      go (yes h) (inr k) =
          let z : some (some q) ≡ some (some q') = sym (only_here (reverse σ) (reverse p) (some q) h) ∙ k in
          (back h, cc)
      go (no h) (inr k) = absurd (never (sym (only_off (reverse σ) (reverse p) (some q) h) ∙ k))

  string_here : (σ : List ℕ) → string_word q σ (reverse σ) ≡ some (some q)
  unfolding string_word
  string_here σ = claim_right (along [] σ (reverse σ)) (only (reverse σ) (some q) (reverse σ)) q
      (only_here (reverse σ) (reverse σ) (some q) refl)

  string_dom : (σ p : List ℕ) (x : Option ℕ) → string_word q σ (reverse p) ≡ some x → Begins p σ
  unfolding string_word
  string_dom σ p x e = go (List-discrete ℕ_discrete (reverse p) (reverse σ))
      (join_dom (along [] σ (reverse p)) (only (reverse σ) (some q) (reverse p)) x e)
    where
      back : (a : List ℕ) → reverse p ≡ reverse a → a ≡ p
      back a h = sym (reverse-reverse a) ∙ ap reverse (sym h) ∙ reverse-reverse p

      Some : Word → Type 0
      Some y = (a : Option ℕ) × (y ≡ some a)

      go : Dec (reverse p ≡ reverse σ) → Some (along [] σ (reverse p)) ⊎ Some (only (reverse σ) (some q) (reverse p)) →
          Begins p σ
      go d (inl k) =
          let (a, b, e₁, e₂) = (along_sound σ [] (reverse p) k.0 k.1).1 in
          (b, e₁ ∙ ap (λ (z : List ℕ). z ++ b) (back a e₂))
      go (yes h) (inr k) = ([], back σ h ∙ sym (append-nil p))
      go (no h) (inr k) = absurd (never (sym (only_off (reverse σ) (reverse p) (some q) h) ∙ k.1))

  string_begun : (p b : List ℕ) → (p ≡ [] → ⊥) → (x : Option ℕ) × (string_word q (p ++ b) (reverse p) ≡ some x)
  unfolding string_word
  string_begun [] b n = absurd (n refl)
  string_begun (t ∷ a) b n =
      let v : List ℕ = reverse_aux a (t ∷ []) in
      join_left (along [] (t ∷ (a ++ b)) v) (only (reverse (t ∷ (a ++ b))) (some q) v) none (along_complete a b [] t)

  -- ---- a list of strings
  pub strings_claim : (σs : List (List ℕ)) (p : List ℕ) (q' : ℕ) → strings_word q σs (reverse p) ≡ some (some q') →
      (q ≡ q') × In p σs
  unfolding strings_word
  strings_claim [] p q' e = absurd (never e)
  strings_claim (σ ∷ σs) p q' e = ⊎_elim
      (λ k. let (a, b) = string_claim σ p q' k in (b, Memᴰ.head a))
      (λ k. let (a, b) = strings_claim σs p q' k in (a, there b))
      (join_claim (string_word q σ (reverse p)) (strings_word q σs (reverse p)) q' e)

  pub strings_stand : (σs : List (List ℕ)) (σ : List ℕ) → In σ σs →
      strings_word q σs (reverse σ) ≡ some (some q)
  unfolding strings_word
  strings_stand [] σ i = absurd (nowhere i)
  strings_stand (τ ∷ σs) σ i =
      let x : Word = string_word q τ (reverse σ) in
      let y : Word = strings_word q σs (reverse σ) in
      ⊎_elim
      (λ e. claim_left x y q (ap (λ (z : List ℕ). string_word q τ (reverse z)) e ∙ string_here τ)
      (λ q' k. (strings_claim σs σ q' k).0))
      (λ j. claim_right x y q (strings_stand σs σ j))
      (where_in i)

  pub strings_dom : (σs : List (List ℕ)) (p : List ℕ) (x : Option ℕ) → strings_word q σs (reverse p) ≡ some x →
      (σ : List ℕ) × In σ σs × Begins p σ
  unfolding strings_word
  strings_dom [] p x e = absurd (never e)
  strings_dom (σ ∷ σs) p x e = ⊎_elim
      (λ k. (σ, here, string_dom σ p k.0 k.1))
      (λ k. let (τ, i, b) = strings_dom σs p k.0 k.1 in (τ, there i, b))
      (join_dom (string_word q σ (reverse p)) (strings_word q σs (reverse p)) x e)

  pub strings_begun : (σs : List (List ℕ)) (σ p : List ℕ) → In σ σs → Begins p σ → (p ≡ [] → ⊥) →
      (x : Option ℕ) × (strings_word q σs (reverse p) ≡ some x)
  unfolding strings_word
  strings_begun [] σ p i b n = absurd (nowhere i)
  strings_begun (τ ∷ σs) σ p i b n =
      let x : Word = string_word q τ (reverse p) in
      let y : Word = strings_word q σs (reverse p) in
      ⊎_elim
      (λ e.
      let (z, k) = string_begun p b.0 n in
      join_left x y z (ap (λ (z : List ℕ). string_word q z (reverse p)) (sym e ∙ b.1) ∙ k))
      (λ j. let (z, k) = strings_begun σs σ p j b n in join_right x y z k)
      (where_in i)
