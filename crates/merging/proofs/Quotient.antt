-- Merging two equal nodes of a quotient gives a quotient by larger classes.
-- Assumes a division into classes (`Class`) whose quotient has two equal nodes.
use mathlib.Core.Path.{◌≡◌, refl, sym, ◌∙◌, ap, ap₂, subst}
use mathlib.Core.Logic.{⊎_elim, ◌⊎◌, inl, inr}
use mathlib.Core.Bool.{Bool, true, false, cond, false≢true}
use mathlib.Core.List.Memᴰ
use mathlib.Core.List.{List, [], ◌∷◌}
use Prim.Native.Nat.{ℕ, ◌≤◌, ◌<◌}
use native.Mathlib.Omega.{arith}
use lib.Dec.{eqb}
use borrow.Author.Tests.{eq-eqb, ne_eqb}
use Rattle.laws.proofs.Tests.{Test, same, apart, test}
use Rattle.laws.proofs.Members.{In, here, there, nowhere, where_in}
use Rattle.paper.specs.Shrink.{Node, redirect, lead, merge}
use Rattle.merging.specs.Classes.{Rising, rise_nil, rise_cons, quotient, Class}
use Rattle.merging.proofs.Redirect.{redirect_redirect}

-- a node of the quotient, and the node it comes from
abbrev pub Root : (ℕ → ℕ) → List Node → Node → Type 0
Root c ns x = (n : Node) × In n ns × (x ≡ lead c n) × (c n.state ≡ n.state)

pub in_quotient : (c : ℕ → ℕ) (ns : List Node) (x : Node) → In x (quotient c ns) → Root c ns x
unfolding quotient
in_quotient c [] x i = absurd (nowhere i)
in_quotient c (n ∷ ns) x i = go (test (c n.state) n.state) i (in_quotient c ns x)
  where
    later : Root c ns x → Root c (n ∷ ns) x
    later k = (k.0, there k.1, k.2, k.3)

    go : Test (c n.state) n.state (eqb (c n.state) n.state) →
        In x (cond (eqb (c n.state) n.state) (lead c n ∷ quotient c ns) (quotient c ns)) →
        (In x (quotient c ns) → Root c ns x) → Root c (n ∷ ns) x
    go (same e h) j ih = ⊎_elim (λ k. (n, here, k, e)) (λ k. later (ih k)) (where_in (rw h at j))
    go (apart e h) j ih = later (ih (rw h at j))

pub quotient_in : (c : ℕ → ℕ) (ns : List Node) (n : Node) → In n ns → c n.state ≡ n.state →
    In (lead c n) (quotient c ns)
unfolding quotient
quotient_in c [] n i e = absurd (nowhere i)
quotient_in c (m ∷ ns) n i e = go (eqb (c m.state) m.state) refl (where_in i) (λ j. quotient_in c ns n j e)
  where
    go : (b : Bool) → eqb (c m.state) m.state ≡ b → (n ≡ m) ⊎ In n ns →
        (In n ns → In (lead c n) (quotient c ns)) → In (lead c n) (cond b (lead c m ∷ quotient c ns) (quotient c ns))
    go true h (inl k) ih = Memᴰ.head (ap (lead c) k)
    go true h (inr k) ih = there (ih k)
    go false h (inl k) ih =
        let root : c m.state ≡ m.state = subst (λ (z : Node). c z.state ≡ z.state) k e in
        absurd (false≢true (sym h ∙ eq-eqb (c m.state) m.state root))
    go false h (inr k) ih = ih k

pub rising_quotient : (c : ℕ → ℕ) (ns : List Node) → Rising ns → Rising (quotient c ns)
unfolding quotient lead
rising_quotient c [] r = rise_nil
rising_quotient c (n ∷ ns) (rise_cons h r) = go (eqb (c n.state) n.state) (rising_quotient c ns r)
  where
    lower : (m : Node) → In m (quotient c ns) → n.state < m.state
    lower m i = let (x, j, e, l) = in_quotient c ns m i in subst (λ (z : Node). n.state < z.state) (sym e) (h x j)

    go : (b : Bool) → Rising (quotient c ns) → Rising (cond b (lead c n ∷ quotient c ns) (quotient c ns))
    go true ih = rise_cons lower ih
    go false ih = ih

-- ---- one class more goes into another

abbrev instead : ℕ → ℕ → ℕ → ℕ
instead a b s = cond (eqb s b) a s

instead_at : (a b s : ℕ) → s ≡ b → instead a b s ≡ a
instead_at a b s e = rw (eq-eqb s b e)

instead_off : (a b s : ℕ) → (s ≡ b → ⊥) → instead a b s ≡ s
instead_off a b s e = rw (ne_eqb s b e)

module _ (ns : List Node) (c : ℕ → ℕ) (k : Class ns c) (n m : Node) (in_n : In n ns) (in_m : In m ns)
    (root_n : c n.state ≡ n.state) (root_m : c m.state ≡ m.state) (ordered : n.state < m.state)
    (eq_production : n.production ≡ m.production) (eq_rows : redirect c n.rows ≡ redirect c m.rows) where
  abbrev a : ℕ
  a = n.state

  abbrev b : ℕ
  b = m.state

  pub next : ℕ → ℕ
  next s = cond (eqb (c s) m.state) n.state (c s)

  next_at : (s : ℕ) → c s ≡ b → next s ≡ a
  unfolding next
  next_at s e = instead_at a b (c s) e

  next_off : (s : ℕ) → (c s ≡ b → ⊥) → next s ≡ c s
  unfolding next
  next_off s e = instead_off a b (c s) e

  next_low : (x : Node) → In x ns → next x.state ≤ x.state
  next_low x i = go (test (c x.state) b)
    where
      go : Test (c x.state) b (eqb (c x.state) b) → next x.state ≤ x.state
      go (same e _) = rw (next_at x.state e) (omega (arith, ordered, k.low x i, e))
      go (apart e _) = rw (next_off x.state e) (k.low x i)

  next_idem : (x : Node) → In x ns → next (next x.state) ≡ next x.state
  next_idem x i = go (test (c x.state) b)
    where
      keep_a : next a ≡ a
      keep_a = next_off a (λ e. omega (arith, ordered, root_n, e)) ∙ root_n

      keep_c : (c x.state ≡ b → ⊥) → next (c x.state) ≡ c x.state
      keep_c e = next_off (c x.state) (λ z. e (sym (k.idem x i) ∙ z)) ∙ k.idem x i

      go : Test (c x.state) b (eqb (c x.state) b) → next (next x.state) ≡ next x.state
      go (same e _) = ap next (next_at x.state e) ∙ keep_a ∙ sym (next_at x.state e)
      go (apart e _) = ap next (next_off x.state e) ∙ keep_c e ∙ sym (next_off x.state e)

  next_home : (x : Node) → In x ns → (y : Node) × In y ns × (y.state ≡ next x.state)
  next_home x i = go (test (c x.state) b)
    where
      go : Test (c x.state) b (eqb (c x.state) b) → (y : Node) × In y ns × (y.state ≡ next x.state)
      go (same e _) = (n, in_n, sym (next_at x.state e))
      go (apart e _) = let h = k.home x i in (h.0, h.1, h.2 ∙ sym (next_off x.state e))

  abbrev Like : Node → Node → Type 0
  Like x y = (x.production ≡ y.production) × (redirect c x.rows ≡ redirect c y.rows)

  mixed : (x y : Node) → In x ns → In y ns → c x.state ≡ b → c y.state ≡ a → Like x y
  mixed x y i j p q =
      let h = k.like x m i in_m (p ∙ sym root_m) in
      let l = k.like n y in_n j (root_n ∙ sym q) in
      (h.0 ∙ sym eq_production ∙ l.0, h.1 ∙ sym eq_rows ∙ l.1)

  next_like : (x y : Node) → In x ns → In y ns → next x.state ≡ next y.state →
      (x.production ≡ y.production) × (redirect next x.rows ≡ redirect next y.rows)
  unfolding next
  next_like x y i j e =
      let h = go (test (c x.state) b) (test (c y.state) b) in
      let rows = ap (redirect (instead a b)) h.1 in
      (h.0, sym (redirect_redirect (instead a b) c x.rows) ∙ rows ∙ redirect_redirect (instead a b) c y.rows)
    where
      go : Test (c x.state) b (eqb (c x.state) b) → Test (c y.state) b (eqb (c y.state) b) → Like x y
      go (same p _) (same q _) = k.like x y i j (p ∙ sym q)
      go (same p _) (apart q _) = mixed x y i j p (sym (next_off y.state q) ∙ sym e ∙ next_at x.state p)
      go (apart p _) (same q _) =
          let h = mixed y x j i q (sym (next_off x.state p) ∙ e ∙ next_at y.state q) in
          (sym h.0, sym h.1)
      go (apart p _) (apart q _) = k.like x y i j (sym (next_off x.state p) ∙ e ∙ next_off y.state q)

  pub next_class : Class ns next
  next_class = record { low = next_low; idem = next_idem; home = next_home; like = next_like }

  lead_lead : (x : Node) → lead (instead a b) (lead c x) ≡ lead next x
  unfolding lead next
  lead_lead x = λ i. record {
    state = x.state;
    production = x.production;
    rows = redirect_redirect (instead a b) c x.rows i;
  }

  pub merge_quotient : (xs : List Node) → merge n.state m.state (quotient c xs) ≡ quotient next xs
  unfolding quotient merge lead
  merge_quotient [] = refl
  merge_quotient (x ∷ xs) = go (test (c x.state) x.state) (test x.state b) (merge_quotient xs)
    where
      s : ℕ
      s = x.state

      keeps : c s ≡ s → (s ≡ b → ⊥) → next s ≡ s
      keeps p q = next_off s (λ e. q (sym p ∙ e)) ∙ p

      drops_b : s ≡ b → next s ≡ s → ⊥
      drops_b q e = omega (arith, ordered, q, sym (next_at s (ap c q ∙ root_m)) ∙ e)

      drops : (c s ≡ s → ⊥) → next s ≡ s → ⊥
      drops p e = far (test (c s) b)
        where
          far : Test (c s) b (eqb (c s) b) → ⊥
          far (same q _) = let z : a ≡ s = sym (next_at s q) ∙ e in p (ap c (sym z) ∙ root_n ∙ z)
          far (apart q _) = p (sym (next_off s q) ∙ e)

      go : Test (c s) s (eqb (c s) s) → Test s b (eqb s b) → merge a b (quotient c xs) ≡ quotient next xs →
          merge a b (cond (eqb (c s) s) (lead c x ∷ quotient c xs) (quotient c xs))
          ≡ cond (eqb (next s) s) (lead next x ∷ quotient next xs) (quotient next xs)
      go (same p h) (same q l) ih = rw (h, l, ne_eqb (next s) s (drops_b q)) ih
      go (same p h) (apart q l) ih =
          rw (h, l, eq-eqb (next s) s (keeps p q)) (ap₂ (λ (y : Node) (ys : List Node). y ∷ ys) (lead_lead x) ih)
      go (apart p h) q ih = rw (h, ne_eqb (next s) s (drops p)) ih
