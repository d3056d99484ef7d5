-- Each state of a tree has one path: so a tree has as many states as strings that lead somewhere in it.
-- Assumes nothing.
use mathlib.Core.Path.{◌≡◌, refl, sym, ◌∙◌, ap}
use mathlib.Core.Option.{Option, none, some}
use mathlib.Core.List.{List, [], ◌∷◌, reverse, reverse-reverse}
use Prim.Native.Nat.{ℕ, zero, suc, ◌≤◌, ◌<◌}
use native.Mathlib.Omega.{arith}
use lib.ListN.{length}
use lib.Dec.{eqb}
use Rattle.laws.proofs.Members.{In}
use Rattle.laws.proofs.Tests.{Test, same, apart, test, never}
use Rattle.paper.specs.Rows.{Table, find}
use Rattle.trees.specs.Reach.{Seat, sit, said, view}
use Rattle.trees.specs.Accepting.{Apart}
use Rattle.trees.proofs.Paths.{path, word, view_word, onward_some, unique, low}
use Rattle.trees.proofs.Tree.{Tree}
use Rattle.trees.proofs.Took.{lead}
use Rattle.trees.proofs.Counting.{into_le, upto, length_upto, in_upto, upto_in, apart_upto}

unfoldable pub Led : Table → ℕ → List ℕ → Type 0
Led t n v = (x : Seat) × (lead t v ≡ some x) × (x.state ≡ n)

module _ (t : Table) (tr : Tree t.rows) where
  pub path_to : (fuel n : ℕ) → n < fuel → n ≤ length t.rows → (v : List ℕ) × Led t n v
  unfolding path Led
  path_to zero n l h = absurd (omega arith)
  path_to (suc fuel) n l h = go (test n 0) (path_to fuel)
    where
      go : Test n 0 (eqb n 0) → ((m : ℕ) → m < fuel → m ≤ length t.rows → (v : List ℕ) × Led t m v) →
          (v : List ℕ) × Led t n v
      go (same e _) ih = ([], (record { state = 0; production = t.prod0 }, refl, sym e))
      go (apart e _) ih =
          let f = find t.rows in
          let (s, u, r, e₁, e₂) = tr.onto n (omega arith) h in
          let up = tr.branching.up s u r e₁ in
          let (v, led) = ih s (omega arith) (omega arith) in
          let (x, e₃, e₄) = led in
          let on : find t.rows x.state u ≡ some r = rw e₄ e₁ in
          (u ∷ v, (sit r, onward_some f (lead t v) u x e₃ r on, e₂))

  pub same_state : (v : List ℕ) (i j : ℕ) → Led t i v → Led t j v → i ≡ j
  unfolding Led
  same_state v i j a b =
      let (x, e, h) = a in
      let (y, f, k) = b in
      let z : x ≡ y = cc in
      sym h ∙ ap (λ (q : Seat). q.state) z ∙ k

  -- and one string leads to each state
  pub one_string : (σ τ : List ℕ) (i : ℕ) → Led t i (reverse σ) → Led t i (reverse τ) → σ ≡ τ
  unfolding Led
  one_string σ τ i a b =
      let (x, e, h) = a in
      let (y, f, k) = b in
      let z = unique t.prod0 (find t.rows) tr.branching (reverse σ) (reverse τ) x y e f (h ∙ sym k) in
      sym (reverse-reverse σ) ∙ ap reverse z ∙ reverse-reverse τ

  back : (v : List ℕ) → view t (reverse v) ≡ word t v
  back v = view_word t (reverse v) ∙ ap (word t) (reverse-reverse v)

  -- all strings that lead somewhere are in the list bs
  pub states_le : (bs : List (List ℕ)) → ((σ : List ℕ) (x : Option ℕ) → view t σ ≡ some x → In σ bs) →
      suc (length t.rows) ≤ length bs
  unfolding Led word said
  states_le bs h =
      let n = into_le (λ i σ. Led t i (reverse σ)) (λ i j σ a b. same_state (reverse σ) i j a b)
      (upto (suc (length t.rows))) bs (apart_upto (suc (length t.rows))) all in
      omega (arith, n, length_upto (suc (length t.rows)))
    where
      all : (i : ℕ) → In i (upto (suc (length t.rows))) → (σ : List ℕ) × Led t i (reverse σ) × In σ bs
      all i j =
          let l = upto_in (suc (length t.rows)) i j in
          let (v, led) = path_to (suc i) i (omega arith) (omega arith) in
          let (x, e₁, e₂) = led in
          let led_back : Led t i (reverse (reverse v)) = (x, ap (lead t) (reverse-reverse v) ∙ e₁, e₂) in
          (reverse v, led_back, h (reverse v) x.production (back v ∙ ap said e₁))

  -- all strings of the list bs lead somewhere, and none stands twice
  pub le_states : (bs : List (List ℕ)) → Apart bs →
      ((σ : List ℕ) → In σ bs → (x : Option ℕ) × (view t σ ≡ some x)) → length bs ≤ suc (length t.rows)
  unfolding Led word said
  le_states bs once h =
      let n = into_le (λ σ i. Led t i (reverse σ)) one_string bs (upto (suc (length t.rows))) once all in
      omega (arith, n, length_upto (suc (length t.rows)))
    where
      seated : (o : Option Seat) (x : Option ℕ) → said o ≡ some x → (y : Seat) × (o ≡ some y)
      seated none x e = absurd (never e)
      seated (some y) x e = (y, refl)

      all : (σ : List ℕ) → In σ bs → (i : ℕ) × Led t i (reverse σ) × In i (upto (suc (length t.rows)))
      all σ j =
          let (x, e) = h σ j in
          let (y, e₁) = seated (lead t (reverse σ)) x (sym (view_word t σ) ∙ e) in
          let l = low t.prod0 (find t.rows) (length t.rows) tr.cap (reverse σ) y e₁ in
          (y.state, (y, e₁, refl), in_upto (suc (length t.rows)) y.state (omega arith))
