-- What is known while the rows of the second table are taken, in either mode: every path in the rows taken so far has
-- its match in the union, and the union says what the first and these rows say together. Assumes nothing.
use mathlib.Core.Path.{◌≡◌, refl, sym, ◌∙◌, ap}
use mathlib.Core.Logic.{⊎_elim}
use mathlib.Core.Option.{Option, none, some}
use mathlib.Core.List.{List, [], ◌∷◌, ◌++◌, List-discrete}
use Prim.Native.Nat.{ℕ}
use native.Mathlib.Omega.{arith}
use native.Mathlib.Decide.{ℕ_discrete}
use borrow.Author.Tests.{eq-eqb, ne_eqb}
use Rattle.laws.proofs.Find.{is_for_self, is_for_other, find_left, find_right}
use Rattle.paper.specs.declared.Mode.{Mode}
use Rattle.paper.specs.Rows.{Row, Table, find}
use Rattle.paper.specs.Unite.{United, matched}
use Rattle.trees.specs.Reach.{Seat, Finder, sit, Word, said}
use Rattle.trees.specs.Views.{join}
use Rattle.trees.proofs.Paths.{path, word, onward_some, onward_inv, Branching}
use Rattle.trees.proofs.Grown.{Grown, grown_tree, grown_keeps, grown_here, grown_other, row_at}
use Rattle.trees.proofs.Tree.{Tree}
use Rattle.trees.proofs.Words.{join_assoc, only, grown_word}
use Rattle.trees.proofs.Order.{Next}
use Rattle.trees.proofs.Took.{lead, Took}

-- a is what the first table says, pB the production of the second's state 0, D its rows taken so far.
pub record Matching (mode : Mode) (a : List ℕ → Word) (pB : Option ℕ) (D : List Row) (u : United) : Type 0 where
  pub tree : Tree u.table.rows
  pub branching : Branching (find D)
  pub led : (s t : ℕ) (r : Row) → find D s t ≡ some r →
      (w : List ℕ) × (y : Seat) × (path pB (find D) w ≡ some y) × (y.state ≡ s)
  pub match : (v : List ℕ) (y : Seat) → path pB (find D) v ≡ some y →
      (x : Seat) × (lead u.table v ≡ some x) × (x.state ≡ matched u.matches y.state)
  pub words : (v : List ℕ) → word u.table v ≡ join mode (a v) (said (path pB (find D) v))
  pub agree : (v : List ℕ) (p q : ℕ) → a v ≡ some (some p) → said (path pB (find D) v) ≡ some (some q) → p ≡ q

module _ (mode : Mode) (a : List ℕ → Word) (pB : Option ℕ) (D : List Row) (u : United)
    (i : Matching mode a pB D u) (r : Row) (nx : Next D r) where
  -- the path to r's from
  pub start_of : (w : List ℕ) × (y : Seat) × (path pB (find D) w ≡ some y) × (y.state ≡ r.from)
  unfolding path
  start_of = ⊎_elim
      (λ e. ([], record { state = 0; production = pB }, refl, sym e))
      (λ k.
      let (x, j, e₁, e₂) = k in
      let (w, y, h₁, h₂) = i.led x.from x.terminal x e₁ in
      let on : find D y.state x.terminal ≡ some x = ap (λ (z : ℕ). find D z x.terminal) h₂ ∙ e₁ in
      (x.terminal ∷ w, sit x, onward_some (find D) (path pB (find D) w) x.terminal y h₁ x on, e₂))
      nx.known

  not_there : (v : List ℕ) (y : Seat) → path pB (find D) v ≡ some y → r.to ≡ y.state → ⊥
  unfolding path
  not_there [] y e k = let z : y.state ≡ 0 = cc in omega (arith, nx.rise, k)
  not_there (t ∷ v) y e k =
      let (z, x, e₁, e₂, e₃) = onward_inv (find D) (path pB (find D) v) t y e in
      nx.fresh z.state t x e₂ (cc)

  single : find (r ∷ []) r.from r.terminal ≡ some r
  unfolding find
  single = rw is_for_self

  beside : (s t : ℕ) → ((s ≡ r.from) × (t ≡ r.terminal) → ⊥) → (o : Option Row) → find D s t ≡ o →
      find (D ++ (r ∷ [])) s t ≡ find D s t
  unfolding find
  beside s t h none e = find_right D (r ∷ []) s t e ∙ rw (is_for_other r s t h) (sym e)
  beside s t h (some x) e = find_left D (r ∷ []) s t x e ∙ sym e

  module _ (w : List ℕ) (y : Seat) (at : path pB (find D) w ≡ some y) (is : y.state ≡ r.from) where
    pub grown_D : Grown pB (find D) (find (D ++ (r ∷ []))) w y r.terminal r
    grown_D = record {
      tree = i.branching;
      at₀ = at;
      new = rw is nx.new;
      here = rw is (find_right D (r ∷ []) r.from r.terminal nx.new ∙ single);
      elsewhere = λ s t h. beside s t (λ k. h (k.0 ∙ sym is, k.1)) (find D s t) refl;
      rise = rw is nx.rise;
      bare = nx.bare;
      fresh = nx.fresh;
    }

    -- the row r taken
    pub matching_step : (t' : Table) (s' : ℕ) → Took mode u.table t' (r.terminal ∷ w) r.production s' →
        ((p q : ℕ) → a (r.terminal ∷ w) ≡ some (some p) → r.production ≡ some q → p ≡ q) →
        Matching mode a pB (D ++ (r ∷ [])) (record { table = t'; matches = (r.to, s') ∷ u.matches })
    unfolding matched said word
    matching_step t' s' took ag = record {
      tree = took.tree;
      branching = grown_tree pB (find D) f' w y r.terminal r grown_D;
      led = λ s t x e. ⊎_elim
          (λ k. let (v, z, e₁, e₂) = i.led s t x k in (v, z, keeps v z e₁, e₂))
          (λ k. (w, y, keeps w y at, sym k.0))
          (row_at pB (find D) f' w y r.terminal r grown_D s t x e);
      match = λ v z e. match v z e (List-discrete ℕ_discrete v new);
      words = λ v. took.words v
          ∙ ap (λ (o : Word). join mode o (only new r.production v)) (i.words v)
          ∙ join_assoc mode _ _ _
          ∙ ap (join mode (a v)) (sym (grown_word mode pB (find D) f' w y r.terminal r grown_D v));
      agree = λ v p q e₁ e₂. agree v p q e₁ e₂ (List-discrete ℕ_discrete v new);
    }
      where
        f' : Finder
        f' = find (D ++ (r ∷ []))

        new : List ℕ
        new = r.terminal ∷ w

        keeps : (v : List ℕ) (z : Seat) → path pB (find D) v ≡ some z → path pB f' v ≡ some z
        keeps = grown_keeps pB (find D) f' w y r.terminal r grown_D

        here : path pB f' new ≡ some (sit r)
        here = grown_here pB (find D) f' w y r.terminal r grown_D

        other : (v : List ℕ) → (v ≡ new → ⊥) → path pB f' v ≡ path pB (find D) v
        other = grown_other pB (find D) f' w y r.terminal r grown_D

        match : (v : List ℕ) (z : Seat) → path pB f' v ≡ some z → Dec (v ≡ new) →
            (x : Seat) × (lead t' v ≡ some x) × (x.state ≡ matched ((r.to, s') ∷ u.matches) z.state)
        match v z e (yes k) =
            let l : r.to ≡ z.state = cc (here, e) in
            (took.seat, ap (lead t') k ∙ took.at, took.is ∙ rw (eq-eqb r.to z.state l))
        match v z e (no n) =
            let d : path pB (find D) v ≡ some z = sym (other v n) ∙ e in
            let (x, e₁, e₂) = i.match v z d in
            let (x', e₃, e₄) = took.keeps v x e₁ in
            (x', e₃, e₄ ∙ e₂ ∙ rw (ne_eqb r.to z.state (not_there v z d)))

        agree : (v : List ℕ) (p q : ℕ) → a v ≡ some (some p) → said (path pB f' v) ≡ some (some q) →
            Dec (v ≡ new) → p ≡ q
        agree v p q e₁ e₂ (yes k) =
            let l : said (path pB f' v) ≡ some r.production =
            ap (λ (z : List ℕ). said (path pB f' z)) k ∙ ap said here in
            ag p q (ap a (sym k) ∙ e₁) (cc)
        agree v p q e₁ e₂ (no n) = i.agree v p q e₁ (ap said (sym (other v n)) ∙ e₂)
