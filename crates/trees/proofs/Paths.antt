-- Paths from state 0, their last token first: in a branching finder each state has one path. Assumes nothing.
use mathlib.Core.Path.{◌≡◌, refl, sym, ◌∙◌, ap}
use mathlib.Core.Option.{Option, none, some}
use mathlib.Core.List.{List, [], ◌∷◌, reverse, reverse_aux}
use Prim.Native.Nat.{ℕ, ◌≤◌, ◌<◌}
use native.Mathlib.Omega.{arith}
use Rattle.laws.proofs.Tests.{never}
use Rattle.paper.specs.Rows.{Row, Table, find}
use Rattle.trees.specs.Reach.{Seat, Finder, sit, seat_of, onward, all_onward, reach, Word, said, view}

-- Where a beginning leads, its last token first, from state 0 with the production p.
unfoldable pub path : Option ℕ → Finder → List ℕ → Option Seat
path p f [] = some (record { state = 0; production = p })
path p f (t ∷ w) = onward f (path p f w) t

-- What a table says of a beginning, its last token first.
unfoldable pub word : Table → List ℕ → Word
word t w = said (path t.prod0 (find t.rows) w)

pub all_onward_path : (p : Option ℕ) (f : Finder) (σ w : List ℕ) →
    all_onward f (path p f w) σ ≡ path p f (reverse_aux σ w)
unfolding all_onward path
all_onward_path p f [] w = refl
all_onward_path p f (t ∷ σ) w = all_onward_path p f σ (t ∷ w)

pub reach_path : (t : Table) (σ : List ℕ) → reach t σ ≡ path t.prod0 (find t.rows) (reverse σ)
unfolding reach path
reach_path t σ = all_onward_path t.prod0 (find t.rows) σ []

pub view_word : (t : Table) (σ : List ℕ) → view t σ ≡ word t (reverse σ)
unfolding view word
view_word t σ = ap said (reach_path t σ)

module _ (f : Finder) (o : Option Seat) (t : ℕ) (y : Seat) (e : o ≡ some y) where
  pub onward_some : (r : Row) → f y.state t ≡ some r → onward f o t ≡ some (sit r)
  unfolding onward seat_of
  onward_some r h = rw e (rw h)

  pub onward_none : f y.state t ≡ none → onward f o t ≡ none
  unfolding onward seat_of
  onward_none h = rw e (rw h)

pub onward_inv : (f : Finder) (o : Option Seat) (t : ℕ) (x : Seat) → onward f o t ≡ some x →
    (y : Seat) × (r : Row) × (o ≡ some y) × (f y.state t ≡ some r) × (x ≡ sit r)
unfolding onward seat_of
onward_inv f none t x e = absurd (never e)
onward_inv f (some y) t x e = go (f y.state t) refl e
  where
    go : (q : Option Row) → f y.state t ≡ q → seat_of q ≡ some x →
        (y' : Seat) × (r : Row) × (some y ≡ some y') × (f y'.state t ≡ some r) × (x ≡ sit r)
    go none e₁ e₂ = absurd (never e₂)
    go (some r) e₁ e₂ = (y, r, refl, e₁, cc)

-- Branching: every row leads to a higher state, and no two rows into one state.
pub record Branching (f : Finder) : Type 0 where
  pub up : (s t : ℕ) (r : Row) → f s t ≡ some r → s < r.to
  pub one : (s t s' t' : ℕ) (r r' : Row) → f s t ≡ some r → f s' t' ≡ some r' → r.to ≡ r'.to →
      (s ≡ s') × (t ≡ t')

-- No state is over n.
abbrev pub Capped : Finder → ℕ → Type 0
Capped f n = (s t : ℕ) (r : Row) → f s t ≡ some r → r.to ≤ n

module _ (p : Option ℕ) (f : Finder) (tree : Branching f) where
  -- each state has one path
  pub unique : (w v : List ℕ) (x y : Seat) → path p f w ≡ some x → path p f v ≡ some y →
      x.state ≡ y.state → w ≡ v
  unfolding path
  unique [] [] x y ex ey es = refl
  unique [] (t ∷ v) x y ex ey es =
      let (z, r, e₁, e₂, e₃) = onward_inv f (path p f v) t y ey in
      let h : z.state < r.to = tree.up z.state t r e₂ in
      let a : x.state ≡ 0 = cc in
      let b : y.state ≡ r.to = cc in
      absurd (omega arith)
  unique (t ∷ w) [] x y ex ey es =
      let (z, r, e₁, e₂, e₃) = onward_inv f (path p f w) t x ex in
      let h : z.state < r.to = tree.up z.state t r e₂ in
      let a : y.state ≡ 0 = cc in
      let b : x.state ≡ r.to = cc in
      absurd (omega arith)
  unique (t ∷ w) (u ∷ v) x y ex ey es =
      let (z, r, e₁, e₂, e₃) = onward_inv f (path p f w) t x ex in
      let (z', r', e₁', e₂', e₃') = onward_inv f (path p f v) u y ey in
      let b : r.to ≡ r'.to = cc in
      let same = tree.one z.state t z'.state u r r' e₂ e₂' b in
      let ih = unique w v z z' e₁ e₁' same.0 in
      cc (same.1, ih)

pub low : (p : Option ℕ) (f : Finder) (n : ℕ) → Capped f n → (w : List ℕ) (x : Seat) → path p f w ≡ some x →
    x.state ≤ n
unfolding path
low p f n cap [] x e = let a : x.state ≡ 0 = cc in omega arith
low p f n cap (t ∷ w) x e =
    let (z, r, e₁, e₂, e₃) = onward_inv f (path p f w) t x e in
    let h = cap z.state t r e₂ in
    let b : x.state ≡ r.to = cc in
    omega arith

-- no row leaves a state over n
pub leaf : (f : Finder) (n : ℕ) → Branching f → Capped f n → (s t : ℕ) → n < s → f s t ≡ none
leaf f n tree cap s t h = go (f s t) refl
  where
    go : (q : Option Row) → f s t ≡ q → f s t ≡ none
    go none e = e
    go (some r) e = absurd (omega (arith, tree.up s t r e, cap s t r e))

-- what is found in f is found in f': so is what is reached
pub path_left : (p : Option ℕ) (f f' : Finder) → ((s t : ℕ) (r : Row) → f s t ≡ some r → f' s t ≡ some r) →
    (v : List ℕ) (y : Seat) → path p f v ≡ some y → path p f' v ≡ some y
unfolding path
path_left p f f' h [] y e = e
path_left p f f' h (t ∷ v) y e =
    let (z, r, e₁, e₂, e₃) = onward_inv f (path p f v) t y e in
    onward_some f' (path p f' v) t z (path_left p f f' h v z e₁) r (h z.state t r e₂) ∙ ap some (sym e₃)

-- ---- the view, step by step
all_onward_none : (f : Finder) (us : List ℕ) → all_onward f none us ≡ none
unfolding all_onward onward
all_onward_none f [] = refl
all_onward_none f (u ∷ us) = all_onward_none f us

-- whatever goes from state to state along the rows as the view does is the view
pub view_by_steps : (rs : List Row) (R : ℕ → Option ℕ → List ℕ → Word) →
    ((s : ℕ) (p : Option ℕ) → R s p [] ≡ some p) →
    ((s : ℕ) (p : Option ℕ) (u : ℕ) (us : List ℕ) → find rs s u ≡ none → R s p (u ∷ us) ≡ none) →
    ((s : ℕ) (p : Option ℕ) (u : ℕ) (us : List ℕ) (r : Row) → find rs s u ≡ some r →
    R s p (u ∷ us) ≡ R r.to r.production us) →
    (us : List ℕ) (s : ℕ) (p : Option ℕ) →
    said (all_onward (find rs) (some (record { state = s; production = p })) us) ≡ R s p us
unfolding all_onward onward said seat_of
view_by_steps rs R ends stops goes [] s p = sym (ends s p)
view_by_steps rs R ends stops goes (u ∷ us) s p = go (find rs s u) refl (view_by_steps rs R ends stops goes us)
  where
    go : (o : Option Row) → find rs s u ≡ o →
        ((s : ℕ) (p : Option ℕ) →
        said (all_onward (find rs) (some (record { state = s; production = p })) us) ≡ R s p us) →
        said (all_onward (find rs) (seat_of o) us) ≡ R s p (u ∷ us)
    go none e ih = ap said (all_onward_none (find rs) us) ∙ sym (stops s p u us e)
    go (some r) e ih = ih r.to r.production ∙ sym (goes s p u us r e)
