-- A tree's rows come in an order that unite can take: each leaves state 0 or a state that an earlier row leads to,
-- and leads to a state that no earlier row knows. Assumes nothing.
use mathlib.Core.Path.{◌≡◌, refl, sym, ◌∙◌, ap, subst}
use mathlib.Core.Logic.{⊎_elim, ◌⊎◌, inl, inr}
use mathlib.Core.Option.{Option, none, some}
use mathlib.Core.List.Memᴰ
use mathlib.Core.List.{List, [], ◌∷◌, ◌++◌}
use Prim.Native.Nat.{ℕ, ◌≤◌, ◌<◌}
use native.Mathlib.Omega.{arith}
use lib.Seq.{append_snoc}
use lib.Dec.{eqb}
use Rattle.laws.proofs.Members.{In, here, where_in}
use Rattle.laws.proofs.Tests.{Test, same, apart, test}
use Rattle.paper.specs.Rows.{Row, find}
use Rattle.laws.proofs.RowsRise.{RowsRise, not_before_itself}
use Rattle.laws.proofs.Find.{find_in, find_left, in_find}
use Rattle.trees.proofs.Rising.{before_last, after_last, rising_front}
use Rattle.trees.proofs.Tree.{Tree, found, up, to_le, into}

-- r may follow the rows D.
pub record Next (D : List Row) (r : Row) : Type 0 where
  pub new : find D r.from r.terminal ≡ none
  pub rise : r.from < r.to
  pub bare : (t : ℕ) → find D r.to t ≡ none
  pub fresh : (s t : ℕ) (x : Row) → find D s t ≡ some x → x.to ≡ r.to → ⊥
  pub known : (r.from ≡ 0) ⊎ ((x : Row) × In x D × (find D x.from x.terminal ≡ some x) × (x.to ≡ r.from))

pub data Ordered : List Row → List Row → Type 0 where
  end : {D : List Row} → Ordered D []
  next : {D : List Row} {r : Row} {rs : List Row} → Next D r → Ordered (D ++ (r ∷ [])) rs → Ordered D (r ∷ rs)

module _ (rs : List Row) (tr : Tree rs) where
  -- what matches the from of a row is known before it is needed
  pub next_in_tree : (D : List Row) (r : Row) (rest : List Row) → rs ≡ D ++ r ∷ rest → Next D r
  next_in_tree D r rest e = record {
    new = absent r.from r.terminal
        (λ x i p q. not_before_itself x r (before_last D r rest rising x i) (sym p, sym q));
    rise = rise;
    bare = λ t. absent r.to t (λ x i p q. omega (arith, no_later x i, p, rise));
    fresh = fresh;
    known = known (test r.from 0);
  }
    where
      rising : RowsRise (D ++ r ∷ rest)
      rising = subst RowsRise e tr.rising

      inside : In r rs
      inside = subst (λ (l : List Row). In r l) (sym e) (Memᴰ.append_right D here)

      rise : r.from < r.to
      rise = up rs tr r inside

      no_later : (x : Row) → In x D → x.from ≤ r.from
      no_later x i = ⊎_elim (λ b. omega (arith, b)) (λ b. omega (arith, b.0)) (before_last D r rest rising x i)

      absent : (s t : ℕ) → ((x : Row) → In x D → x.from ≡ s → x.terminal ≡ t → ⊥) → find D s t ≡ none
      absent s t h = go (find D s t) refl
        where
          go : (o : Option Row) → find D s t ≡ o → find D s t ≡ none
          go none k = k
          go (some x) k = let (i, p, q) = find_in D s t x k in absurd (h x i p q)

      lift : (s t : ℕ) (x : Row) → find D s t ≡ some x → find rs s t ≡ some x
      lift s t x k = subst (λ (l : List Row). find l s t ≡ some x) (sym e) (find_left D (r ∷ rest) s t x k)

      fresh : (s t : ℕ) (x : Row) → find D s t ≡ some x → x.to ≡ r.to → ⊥
      fresh s t x k l =
          let (a, b) = tr.branching.one s t r.from r.terminal x r (lift s t x k) (found rs tr r inside) l in
          let (i, p, q) = find_in D s t x k in
          not_before_itself x r (before_last D r rest rising x i) (sym (p ∙ a), sym (q ∙ b))

      -- the row into r's from comes earlier, since it leaves a lower state
      known : Test r.from 0 (eqb r.from 0) →
          (r.from ≡ 0) ⊎ ((x : Row) × In x D × (find D x.from x.terminal ≡ some x) × (x.to ≡ r.from))
      known (same k _) = inl k
      known (apart k _) =
          let (x, i, e₁) = into rs tr r.from (omega arith) (omega (arith, rise, to_le rs tr r inside)) in
          let lower : x.from < r.from = omega (arith, up rs tr x i, e₁) in
          let later : (In x (r ∷ rest)) → ⊥ = λ j. ⊎_elim
          (λ z. omega (arith, ap (λ (y : Row). y.from) z, lower))
          (λ z. ⊎_elim (λ b. omega (arith, b, lower)) (λ b. omega (arith, b.0, lower))
          (after_last D r rest rising x z))
          (where_in j) in
          let in_D : In x D = ⊎_elim (λ j. j) (λ j. absurd (later j))
          (Memᴰ.append_cases D (subst (λ (l : List Row). In x l) e i)) in
          inr (x, in_D, in_find D x (rising_front D (r ∷ rest) rising) in_D, e₁)

  ordered_from : (rest D : List Row) → rs ≡ D ++ rest → Ordered D rest
  ordered_from [] D e = end
  ordered_from (r ∷ rest) D e =
      next (next_in_tree D r rest e) (ordered_from rest (D ++ (r ∷ [])) (e ∙ sym (append_snoc D r rest)))

  pub ordered : Ordered [] rs
  ordered = ordered_from rs [] refl
