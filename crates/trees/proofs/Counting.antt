-- Lists without repetition, counted: they are no longer than a list into which they go one to one. Assumes nothing.
use mathlib.Core.Path.{◌≡◌, refl, sym, ◌∙◌, ap, subst}
use mathlib.Core.Logic.{⊎_elim}
use mathlib.Core.List.Memᴰ
use mathlib.Core.List.{List, [], ◌∷◌}
use Prim.Native.Nat.{ℕ, zero, suc, ◌≤◌, ◌<◌}
use native.Mathlib.Omega.{arith}
use lib.ListN.{length}
use lib.Dec.{eqb}
use Rattle.laws.proofs.Members.{In, here, there, nowhere, where_in}
use Rattle.laws.proofs.Tests.{Test, same, apart, test}
use Rattle.trees.specs.Accepting.{Apart, apart_nil, apart_cons}

-- A list without one of its elements.
data Dropped {A : Type 0} (x : A) (l : List A) : Type 0 where
  dropped : (l' : List A) → length l ≡ suc (length l') →
      ((y : A) → In y l → (y ≡ x → ⊥) → In y l') → Dropped x l

drop_one : {A : Type 0} (x : A) (l : List A) → In x l → Dropped x l
drop_one {A = A} x [] x'' = elim x'' [ ]
drop_one x (a ∷ l) (Memᴰ.head e) =
    dropped l refl (λ y i n. ⊎_elim (λ k. absurd (n (k ∙ sym e))) (λ j. j) (where_in i))
drop_one {A} x (a ∷ l) (Memᴰ.tail i) = go (drop_one x l i)
  where
    go : Dropped x l → Dropped x (a ∷ l)
    go (dropped l' e h) = dropped (a ∷ l') (ap suc e)
        (λ y j n. ⊎_elim (λ k. Memᴰ.head k) (λ j'. there (h y j' n)) (where_in j))

-- What a list becomes by the relation R.
pub record Images {A B : Type 0} (R : A → B → Type 0) (xs : List A) (ys : List B) : Type 0 where
  pub once : Apart ys
  pub from : (b : B) → In b ys → (x : A) × In x xs × R x b
  pub to : (x : A) → In x xs → (b : B) × In b ys × R x b

-- One to one by the relation R.
module _ {A B : Type 0} (R : A → B → Type 0) (one : (x y : A) (b : B) → R x b → R y b → x ≡ y) where
  pub images : (xs : List A) → Apart xs → ((x : A) → In x xs → (b : B) × R x b) → (ys : List B) × Images R xs ys
  images [] a f = (
    [],
    record {
      once = apart_nil;
      from = λ b i. absurd (nowhere i);
      to = λ x i. absurd (nowhere i);
    },
  )
  images (x ∷ xs) (apart_cons n a) f =
      let (b, r) = f x here in
      let (ys, im) = images xs a (λ y i. f y (there i)) in (
        b ∷ ys,
        record {
          once = apart_cons
              (λ i. let (y, j, s) = im.from b i in n (subst (λ (z : A). In z xs) (one y x b s r) j))
              im.once;
          from = λ c i. ⊎_elim
              (λ e. (x, here, subst (λ (z : B). R x z) (sym e) r))
              (λ j. let (y, k, s) = im.from c j in (y, there k, s))
              (where_in i);
          to = λ y i. ⊎_elim
              (λ e. (b, here, subst (λ (z : A). R z b) (sym e) r))
              (λ j. let (c, k, s) = im.to y j in (c, there k, s))
              (where_in i);
        },
      )

  pub into_le : (xs : List A) (ys : List B) → Apart xs →
      ((x : A) → In x xs → (b : B) × R x b × In b ys) → length xs ≤ length ys
  into_le [] ys a h = omega arith
  into_le (x ∷ xs) ys (apart_cons n a) h =
      let (b, r, i) = h x here in
      go b r (drop_one b ys i) (λ ys' h'. into_le xs ys' a h')
    where
      go : (b : B) → R x b → Dropped b ys →
          ((ys' : List B) → ((y : A) → In y xs → (c : B) × R y c × In c ys') → length xs ≤ length ys') →
          suc (length xs) ≤ length ys
      go b r (dropped ys' e k) ih =
          let others : (y : A) → In y xs → (c : B) × R y c × In c ys' = λ y j.
          let (c, s, i) = h y (there j) in
          (c, s, k c i (λ z. n (subst (λ (w : A). In w xs) (one y x b (subst (R y) z s) r) j))) in
          omega (arith, e, ih ys' others)

pub subset_le : {A : Type 0} (xs ys : List A) → Apart xs → ((x : A) → In x xs → In x ys) →
    length xs ≤ length ys
subset_le {A} xs ys a h =
    into_le {A = A} {B = A} (λ x y. x ≡ y) (λ x y b e f. e ∙ sym f) xs ys a (λ x i. (x, refl, h x i))

-- ---- the numbers below n
unfoldable pub upto : ℕ → List ℕ
upto zero = []
upto (suc n) = n ∷ upto n

pub length_upto : (n : ℕ) → length (upto n) ≡ n
unfolding upto
length_upto zero = refl
length_upto (suc n) = ap suc (length_upto n)

pub in_upto : (n i : ℕ) → i < n → In i (upto n)
unfolding upto
in_upto zero i l = absurd (omega arith)
in_upto (suc n) i l = go (test i n) (in_upto n i)
  where
    go : Test i n (eqb i n) → (i < n → In i (upto n)) → In i (n ∷ upto n)
    go (same e _) ih = Memᴰ.head e
    go (apart e _) ih = there (ih (omega arith))

pub upto_in : (n i : ℕ) → In i (upto n) → i < n
unfolding upto
upto_in zero i j = absurd (nowhere j)
upto_in (suc n) i j =
    ⊎_elim (λ e. omega (arith, e)) (λ k. omega (arith, upto_in n i k)) (where_in j)

pub apart_upto : (n : ℕ) → Apart (upto n)
unfolding upto
apart_upto zero = apart_nil
apart_upto (suc n) = apart_cons (λ (i : In n (upto n)). omega (arith, upto_in n n i)) (apart_upto n)
