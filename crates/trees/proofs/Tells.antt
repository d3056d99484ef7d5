-- A view tells what lists say: build's does, the join of two that agree does, and one that does says it.
-- Assumes nothing.
use mathlib.Core.Path.{◌≡◌, refl, sym, ◌∙◌, ap, subst}
use mathlib.Core.Logic.{⊎_elim, ◌⊎◌, inl, inr}
use mathlib.Core.Bool.{Bool, true, false, cond, false≢true}
use mathlib.Core.Option.{Option, none, some}
use mathlib.Core.List.{List, [], ◌∷◌, ◌++◌, reverse, reverse-reverse, List-discrete}
use mathlib.Core.List.Memᴰ
use Prim.Native.Nat.{ℕ, ◌<◌}
use native.Mathlib.Omega.{arith}
use native.Mathlib.Decide.{ℕ_discrete}
use lib.ListN.{length}
use Rattle.laws.proofs.Members.{In, here}
use Rattle.laws.proofs.Tests.{never}
use Rattle.paper.specs.declared.Mode.TheVariants.{Intake}
use Rattle.paper.specs.Rows.{Table}
use Rattle.paper.specs.Build.{built}
use Rattle.paper.specs.Lists.{Opening, begins_some, stands_under}
use Rattle.trees.specs.Reach.{Word, view}
use Rattle.trees.specs.Views.{join}
use Rattle.trees.specs.Unions.{Agreed}
use Rattle.trees.specs.Says.{told, Says, Stands, Begun}
use Rattle.trees.proofs.Paths.{view_word}
use Rattle.trees.proofs.Words.{only, only_here, only_off, join_claim, join_dom, join_left, join_right}
use Rattle.trees.proofs.Words.{claim_left, claim_right}
use Rattle.trees.proofs.Built.{strings_word, built_words}
use Rattle.trees.proofs.Strings.{blank, strings_claim, strings_stand, strings_dom, strings_begun}
use Rattle.trees.proofs.ListTests.{some_sound, some_complete, under_sound, under_none}

pub record Tells (D : List ℕ → Word) (ls : List Opening) : Type 0 where
  pub claim : (σ : List ℕ) (q : ℕ) → D σ ≡ some (some q) → Stands ls σ q
  pub stands : (σ : List ℕ) (q : ℕ) → Stands ls σ q → D σ ≡ some (some q)
  pub dom : (σ : List ℕ) (x : Option ℕ) → D σ ≡ some x → (σ ≡ []) ⊎ Begun ls σ
  pub begun : (p : List ℕ) → Begun ls p → (x : Option ℕ) × (D p ≡ some x)

-- ---- more lists
module _ (ls ls' : List Opening) (sub : (l : Opening) → In l ls → In l ls') where
  pub stands_more : (σ : List ℕ) (q : ℕ) → Stands ls σ q → Stands ls' σ q
  stands_more σ q s =
      record { list = s.list; listed = sub s.list s.listed; under = s.under; string = s.string }

  pub begun_more : (p : List ℕ) → Begun ls p → Begun ls' p
  begun_more p b = record {
    list = b.list;
    listed = sub b.list b.listed;
    string = b.string;
    within = b.within;
    begins = b.begins;
  }

-- ---- build
module _ (q : ℕ) (σ : List ℕ) (σs : List (List ℕ)) where
  one : Opening
  one = record { production = q; strings = σ ∷ σs }

  is : (p : List ℕ) → view (built q (σ ∷ σs)) p
      ≡ join Intake (only [] none (reverse p)) (strings_word q (σ ∷ σs) (reverse p))
  is p = view_word (built q (σ ∷ σs)) p ∙ built_words q σ σs (reverse p)

  pub tells_built : Tells (view (built q (σ ∷ σs))) (record { production = q; strings = σ ∷ σs } ∷ [])
  unfolding one
  tells_built = record { claim = claim; stands = stands; dom = dom; begun = begun }
    where
      ls : List Opening
      ls = record { production = q; strings = σ ∷ σs } ∷ []

      root : List ℕ → Word
      root p = only [] none (reverse p)

      rest : List ℕ → Word
      rest p = strings_word q (σ ∷ σs) (reverse p)

      own : (τ : List ℕ) (l : Opening) → In l ls → In τ l.strings → In τ (σ ∷ σs)
      own τ l i j = subst (λ (z : Opening). In τ z.strings) (Memᴰ.eq_of_singleton i) j

      no_claim : (p : List ℕ) (q' : ℕ) → root p ≡ some (some q') → ⊥
      no_claim p q' e = ⊎_elim
          (λ k. never (sym k ∙ e))
          (λ k. let z : none ≡ some q' = cc in never z)
          (blank [] (reverse p))

      claim : (p : List ℕ) (q' : ℕ) → view (built q (σ ∷ σs)) p ≡ some (some q') → Stands ls p q'
      claim p q' e = ⊎_elim
          (λ k. absurd (no_claim p q' k))
          (λ k.
          let (a, i) = strings_claim q (σ ∷ σs) p q' k in
          record { list = one; listed = here; under = a; string = i })
          (join_claim (root p) (rest p) q' (sym (is p) ∙ e))

      stands : (p : List ℕ) (q' : ℕ) → Stands ls p q' → view (built q (σ ∷ σs)) p ≡ some (some q')
      stands p q' s =
          let i = own p s.list s.listed s.string in
          let only_one = Memᴰ.eq_of_singleton s.listed in
          let z : q ≡ q' = ap (λ (l : Opening). l.production) (sym only_one) ∙ s.under in
          is p ∙ claim_right (root p) (rest p) q (strings_stand q (σ ∷ σs) p i) ∙ ap (λ (n : ℕ). some (some n)) z

      dom : (p : List ℕ) (x : Option ℕ) → view (built q (σ ∷ σs)) p ≡ some x → (p ≡ []) ⊎ Begun ls p
      dom p x e = go (List-discrete ℕ_discrete (reverse p) []) (join_dom (root p) (rest p) x (sym (is p) ∙ e))
        where
          go : Dec (reverse p ≡ []) → ((a : Option ℕ) × (root p ≡ some a)) ⊎ ((a : Option ℕ) × (rest p ≡ some a)) →
              (p ≡ []) ⊎ Begun ls p
          go (yes h) k = inl (sym (reverse-reverse p) ∙ ap reverse h)
          go (no h) (inl k) = absurd (never (sym (only_off [] (reverse p) none h) ∙ k.1))
          go (no h) (inr k) =
              let (τ, i, b) = strings_dom q (σ ∷ σs) p k.0 k.1 in
              inr (record { list = one; listed = here; string = τ; within = i; begins = b })

      begun : (p : List ℕ) → Begun ls p → (x : Option ℕ) × (view (built q (σ ∷ σs)) p ≡ some x)
      begun p b = go (List-discrete ℕ_discrete p [])
        where
          whole : ((x : Option ℕ) × (join Intake (root p) (rest p) ≡ some x)) →
              (x : Option ℕ) × (view (built q (σ ∷ σs)) p ≡ some x)
          whole k = (k.0, is p ∙ k.1)

          go : Dec (p ≡ []) → (x : Option ℕ) × (view (built q (σ ∷ σs)) p ≡ some x)
          go (yes h) = whole (join_left (root p) (rest p) none (only_here [] (reverse p) none (ap reverse h)))
          go (no h) =
              let i = own b.string b.list b.listed b.within in
              let (x, k) = strings_begun q (σ ∷ σs) b.string p i b.begins h in
              whole (join_right (root p) (rest p) x k)

-- ---- the join
pub tells_join : (D E : List ℕ → Word) (ls ls' : List Opening) → Tells D ls → Tells E ls' → Agreed D E →
    Tells (λ σ. join Intake (D σ) (E σ)) (ls ++ ls')
tells_join D E ls ls' a b agree = record {
  claim = λ σ q e. ⊎_elim
      (λ k. stands_more ls (ls ++ ls') left σ q (a.claim σ q k))
      (λ k. stands_more ls' (ls ++ ls') right σ q (b.claim σ q k))
      (join_claim (D σ) (E σ) q e);
  stands = λ σ q s. ⊎_elim
      (λ k.
      let e = a.stands σ q (record { list = s.list; listed = k; under = s.under; string = s.string }) in
      claim_left (D σ) (E σ) q e (λ q' e'. agree σ q q' e e'))
      (λ k.
      let e = b.stands σ q (record { list = s.list; listed = k; under = s.under; string = s.string }) in
      claim_right (D σ) (E σ) q e)
      (Memᴰ.append_cases ls s.listed);
  dom = λ σ x e. ⊎_elim
      (λ k. ⊎_elim (λ n. inl n) (λ n. inr (begun_more ls (ls ++ ls') left σ n)) (a.dom σ k.0 k.1))
      (λ k. ⊎_elim (λ n. inl n) (λ n. inr (begun_more ls' (ls ++ ls') right σ n)) (b.dom σ k.0 k.1))
      (join_dom (D σ) (E σ) x e);
  begun = λ p n. ⊎_elim
      (λ k. let (x, e) = a.begun p (part ls p n k) in join_left (D p) (E p) x e)
      (λ k. let (x, e) = b.begun p (part ls' p n k) in join_right (D p) (E p) x e)
      (Memᴰ.append_cases ls n.listed);
}
  where
    left : (l : Opening) → In l ls → In l (ls ++ ls')
    left l i = Memᴰ.append_left ls' i

    right : (l : Opening) → In l ls' → In l (ls ++ ls')
    right l i = Memᴰ.append_right ls i

    part : (ms : List Opening) (p : List ℕ) (n : Begun (ls ++ ls') p) → In n.list ms → Begun ms p
    part ms p n k =
        record { list = n.list; listed = k; string = n.string; within = n.within; begins = n.begins }

-- ---- what tells them says them
pub tells_says : (t : Table) (l : Opening) (ls : List Opening) → 0 < length l.strings → Tells (view t) (l ∷ ls) →
    Says t (l ∷ ls)
unfolding told
tells_says t l ls filled tells σ = go (begins_some (l ∷ ls) σ) refl (view t σ) refl
  where
    all : List Opening
    all = l ∷ ls

    empty : (τs : List (List ℕ)) → 0 < length τs → τs ≡ l.strings → Begun (l ∷ ls) []
    empty [] h e = absurd (omega arith)
    empty (τ ∷ τs) h e = record {
      list = l;
      listed = here;
      string = τ;
      within = subst (λ (z : List (List ℕ)). In τ z) e here;
      begins = (τ, refl);
    }

    begun : (x : Option ℕ) → view t σ ≡ some x → begins_some (l ∷ ls) σ ≡ true
    begun x e = some_complete (l ∷ ls) σ (⊎_elim
        (λ k. subst (λ (z : List ℕ). Begun (l ∷ ls) z) (sym k) (empty l.strings filled refl))
        (λ b. b) (tells.dom σ x e))

    word : (x o : Option ℕ) → view t σ ≡ some x → stands_under (l ∷ ls) σ ≡ o → some x ≡ some (stands_under (l ∷ ls) σ)
    word x (some q) e h =
        sym e ∙ tells.stands σ q (under_sound (l ∷ ls) σ q h) ∙ ap some (sym h)
    word none none e h = ap some (sym h)
    word (some q) none e h = absurd (under_none (l ∷ ls) σ h q (tells.claim σ q e))

    go : (b : Bool) → begins_some (l ∷ ls) σ ≡ b → (w : Word) → view t σ ≡ w →
        view t σ ≡ cond b (some (stands_under (l ∷ ls) σ)) none
    go true e none f =
        let (x, k) = tells.begun σ (some_sound (l ∷ ls) σ e) in
        absurd (never (sym f ∙ k))
    go true e (some x) f = f ∙ word x (stands_under (l ∷ ls) σ) f refl
    go false e none f = f
    go false e (some x) f = absurd (false≢true (sym e ∙ begun x f))
