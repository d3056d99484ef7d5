-- Rows led elsewhere, once, twice and by functions that agree. Assumes nothing.
use mathlib.Core.Path.{◌≡◌, refl, sym, ap}
use mathlib.Core.List.{List, [], ◌∷◌, nil≢cons, head-eq_of_cons-eq, tail-eq_of_cons-eq}
use Prim.Native.Nat.{ℕ}
use Rattle.laws.proofs.Members.{In, here, there, map_in}
use Rattle.paper.specs.Shrink.{redirect}

pub redirect_redirect : (f g : ℕ → ℕ) (os : List (ℕ × ℕ)) →
    redirect f (redirect g os) ≡ redirect (λ s. f (g s)) os
unfolding redirect
redirect_redirect f g [] = refl
redirect_redirect f g (o ∷ os) = ap (λ (r : List (ℕ × ℕ)). (o.0, f (g o.1)) ∷ r) (redirect_redirect f g os)

pub redirect_id : (os : List (ℕ × ℕ)) → redirect (λ s. s) os ≡ os
unfolding redirect
redirect_id [] = refl
redirect_id (o ∷ os) = ap (λ (r : List (ℕ × ℕ)). o ∷ r) (redirect_id os)

-- where a redirected row comes from
pub redirect_in : (f : ℕ → ℕ) (os : List (ℕ × ℕ)) (o : ℕ × ℕ) → In o (redirect f os) →
    (p : ℕ × ℕ) × In p os × (o.0 ≡ p.0) × (o.1 ≡ f p.1)
unfolding redirect
redirect_in f os o i =
    let (p, j, e) = map_in (λ (r : ℕ × ℕ). (r.0, f r.1)) os o i in
    (p, j, ap (λ (q : ℕ × ℕ). q.0) e, ap (λ (q : ℕ × ℕ). q.1) e)

pub same_redirect : (c d : ℕ → ℕ) (os : List (ℕ × ℕ)) →
    ((o : ℕ × ℕ) → In o os → c o.1 ≡ d o.1) → redirect c os ≡ redirect d os
unfolding redirect
same_redirect c d [] h = refl
same_redirect c d (o ∷ os) h = λ i. (o.0, h o here i) ∷ same_redirect c d os (λ p j. h p (there j)) i

-- what c holds together d holds together: so rows equal by c are equal by d
pub redirect_over : (c d : ℕ → ℕ) (xs ys : List (ℕ × ℕ)) →
    ((o p : ℕ × ℕ) → In o xs → In p ys → c o.1 ≡ c p.1 → d o.1 ≡ d p.1) →
    redirect c xs ≡ redirect c ys → redirect d xs ≡ redirect d ys
unfolding redirect
redirect_over c d [] [] h e = refl
redirect_over c d [] (y ∷ ys) h e = absurd (nil≢cons e)
redirect_over c d (x ∷ xs) [] h e = absurd (nil≢cons (sym e))
redirect_over c d (x ∷ xs) (y ∷ ys) h e =
    let hd : ◌≡◌ {A = ℕ × ℕ} (x.0, c x.1) (y.0, c y.1) = head-eq_of_cons-eq e in
    let tl : redirect c xs ≡ redirect c ys = tail-eq_of_cons-eq e in
    let a : x.0 ≡ y.0 = ap (λ (q : ℕ × ℕ). q.0) hd in
    let b : d x.1 ≡ d y.1 = h x y here here (ap (λ (q : ℕ × ℕ). q.1) hd) in
    λ i. (a i, b i) ∷ redirect_over c d xs ys (λ o p j k. h o p (there j) (there k)) tl i
