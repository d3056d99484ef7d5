-- One state with another production: the same paths, and the same branching. Assumes nothing.
use mathlib.Core.Path.{◌≡◌, refl, sym, ◌∙◌, ap}
use mathlib.Core.Bool.{cond}
use mathlib.Core.Option.{Option, none, some}
use mathlib.Core.List.{List, [], ◌∷◌}
use Prim.Native.Nat.{ℕ}
use native.Mathlib.Omega.{arith}
use lib.Dec.{eqb}
use borrow.Author.Tests.{eq-eqb, ne_eqb}
use Rattle.laws.proofs.Tests.{Test, same, apart, test}
use Rattle.paper.specs.Rows.{Row}
use Rattle.trees.specs.Reach.{Seat, Finder, seat_of, onward}
use Rattle.trees.proofs.Paths.{path, Branching, Capped}
use Rattle.trees.proofs.Paint.{paint, painted, painted_inv}

unfoldable pub reseat : ℕ → Option ℕ → Option Seat → Option Seat
reseat s q none = none
reseat s q (some x) = some (record { state = x.state; production = cond (eqb x.state s) q x.production })

pub eqb_sym : (a b : ℕ) → eqb a b ≡ eqb b a
eqb_sym a b = go (test a b)
  where
    go : Test a b (eqb a b) → eqb a b ≡ eqb b a
    go (same h e) = e ∙ sym (eq-eqb b a (sym h))
    go (apart h e) = e ∙ sym (ne_eqb b a (λ k. h (sym k)))

module _ (f f' : Finder) (s : ℕ) (q : Option ℕ) (h : (a b : ℕ) → f' a b ≡ painted s q (f a b)) where
  pub path_given : (p : Option ℕ) (w : List ℕ) → path (cond (eqb s 0) q p) f' w ≡ reseat s q (path p f w)
  unfolding path onward reseat painted paint seat_of
  path_given p [] = rw (eqb_sym s 0)
  path_given p (t ∷ w) = ap (λ (o : Option Seat). onward f' o t) (path_given p w) ∙ go (path p f w)
    where
      row : (o : Option Row) → seat_of (painted s q o) ≡ reseat s q (seat_of o)
      row none = refl
      row (some r) = refl

      go : (o : Option Seat) → onward f' (reseat s q o) t ≡ reseat s q (onward f o t)
      go none = refl
      go (some x) = ap seat_of (h x.state t) ∙ row (f x.state t)

  back : (a b : ℕ) (r : Row) → f' a b ≡ some r → (x : Row) × (f a b ≡ some x) × (x.to ≡ r.to)
  back a b r e = painted_inv s q (f a b) r (sym (h a b) ∙ e)

  pub tree_given : Branching f → Branching f'
  tree_given tree = record {
    up = λ a b r e. let (x, e₁, e₂) = back a b r e in omega (arith, tree.up a b x e₁, e₂);
    one = λ a b a' b' r₁ r₂ e₁ e₂ e.
        let (x₁, k₁, l₁) = back a b r₁ e₁ in
        let (x₂, k₂, l₂) = back a' b' r₂ e₂ in
        tree.one a b a' b' x₁ x₂ k₁ k₂ (l₁ ∙ e ∙ sym l₂);
  }

  pub cap_given : (n : ℕ) → Capped f n → Capped f' n
  cap_given n cap a b r e = let (x, e₁, e₂) = back a b r e in omega (arith, cap a b x e₁, e₂)
