-- A test of every element and of any, read element by element. Assumes nothing.
use mathlib.Core.Path.{◌≡◌, refl, sym, ◌∙◌, ap}
use mathlib.Core.Logic.{⊎_elim, ◌⊎◌, inl, inr}
use mathlib.Core.Bool.{Bool, true, false, ◌&&◌, ◌||◌, false≢true}
use mathlib.Core.List.Memᴰ
use mathlib.Core.List.{List, [], ◌∷◌, Memᴰ}
use Rattle.paper.specs.Checks.{every, any}

pub both : (a b : Bool) → a ≡ true → b ≡ true → a && b ≡ true
both a b e f = rw (e, f)

pub first_of : (a b : Bool) → a && b ≡ true → a ≡ true
first_of true b e = refl
first_of false b e = e

pub second_of : (a b : Bool) → a && b ≡ true → b ≡ true
second_of true b e = e
second_of false b e = absurd (false≢true e)

pub or_cases : (a b : Bool) → a || b ≡ true → (a ≡ true) ⊎ (b ≡ true)
or_cases true b e = inl refl
or_cases false b e = inr e

pub or_left : (a b : Bool) → a ≡ true → a || b ≡ true
or_left true b e = refl
or_left false b e = absurd (false≢true e)

pub or_right : (a b : Bool) → b ≡ true → a || b ≡ true
or_right true b e = refl
or_right false b e = e

pub neither : (a b : Bool) → a || b ≡ false → (a ≡ false) × (b ≡ false)
neither true b e = absurd (false≢true (sym e))
neither false b e = (refl, e)

module _ {A : Type 0} (f : A → Bool) where
  pub every_true : (xs : List A) → ((x : A) → Memᴰ x xs → f x ≡ true) → every f xs ≡ true
  unfolding every
  every_true [] h = refl
  every_true (x ∷ xs) h =
      both (f x) (every f xs) (h x (Memᴰ.head refl)) (every_true xs (λ y i. h y (Memᴰ.tail i)))

  pub every_in : (xs : List A) → every f xs ≡ true → (x : A) → Memᴰ x xs → f x ≡ true
  unfolding every
  every_in [] e x i = absurd (Memᴰ.not-nil i)
  every_in (y ∷ ys) e x i = ⊎_elim
      (λ k. ap f k ∙ first_of (f y) (every f ys) e)
      (λ j. every_in ys (second_of (f y) (every f ys) e) x j)
      (Memᴰ.cases_cons i)

  pub any_true : (xs : List A) (x : A) → Memᴰ x xs → f x ≡ true → any f xs ≡ true
  unfolding any
  any_true [] x i e = absurd (Memᴰ.not-nil i)
  any_true (y ∷ ys) x i e = ⊎_elim
      (λ k. or_left (f y) (any f ys) (ap f (sym k) ∙ e))
      (λ j. or_right (f y) (any f ys) (any_true ys x j e))
      (Memᴰ.cases_cons i)

  pub any_false : (xs : List A) → ((x : A) → Memᴰ x xs → f x ≡ false) → any f xs ≡ false
  unfolding any
  any_false [] h = refl
  any_false (x ∷ xs) h = rw (h x (Memᴰ.head refl)) (any_false xs (λ y i. h y (Memᴰ.tail i)))

  pub any_in : (xs : List A) → any f xs ≡ false → (x : A) → Memᴰ x xs → f x ≡ false
  unfolding any
  any_in [] e x i = absurd (Memᴰ.not-nil i)
  any_in (y ∷ ys) e x i = ⊎_elim
      (λ k. ap f k ∙ (neither (f y) (any f ys) e).0)
      (λ j. any_in ys (neither (f y) (any f ys) e).1 x j)
      (Memᴰ.cases_cons i)

  pub any_some : (xs : List A) → any f xs ≡ true → (x : A) × Memᴰ x xs × (f x ≡ true)
  unfolding any
  any_some [] e = absurd (false≢true e)
  any_some (y ∷ ys) e = ⊎_elim
      (λ k. (y, Memᴰ.head refl, k))
      (λ k. let (x, i, h) = any_some ys k in (x, Memᴰ.tail i, h))
      (or_cases (f y) (any f ys) e)
