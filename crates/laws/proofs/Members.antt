-- Members of a list, short names for the library's. Assumes nothing.
use mathlib.Core.Path.{◌≡◌, refl, ap}
use mathlib.Core.Logic.{⊎_elim, ◌⊎◌}
use mathlib.Core.List.Memᴰ
use mathlib.Core.List.{
  List,
  [],
  ◌∷◌,
  map,
  Memᴰ,
}

module _ {A : Type 0} where
  abbrev pub In : A → List A → Type 0
  In x xs = Memᴰ x xs

  abbrev pub here : {x : A} {xs : List A} → In x (x ∷ xs)
  here = Memᴰ.head refl

  abbrev pub there : {x y : A} {xs : List A} → In x xs → In x (y ∷ xs)
  there i = Memᴰ.tail i

  abbrev pub nowhere : {x : A} → In x [] → ⊥
  nowhere i = Memᴰ.not-nil i

  abbrev pub where_in : {x y : A} {xs : List A} → In x (y ∷ xs) → (x ≡ y) ⊎ In x xs
  where_in i = Memᴰ.cases_cons i

module _ {A B : Type 0} (f : A → B) where
  pub in_map : (xs : List A) (x : A) → In x xs → In (f x) (map f xs)
  in_map [] x i = absurd (nowhere i)
  in_map (y ∷ xs) x i = ⊎_elim (λ e. Memᴰ.head (ap f e)) (λ j. there (in_map xs x j)) (where_in i)

  pub map_in : (xs : List A) (y : B) → In y (map f xs) → (x : A) × In x xs × (y ≡ f x)
  map_in [] y i = absurd (nowhere i)
  map_in (x ∷ xs) y i =
      ⊎_elim (λ e. (x, here, e)) (λ j. let (z, k, e) = map_in xs y j in (z, there k, e)) (where_in i)
