-- The order of the lists changes no answer: neither what they say, nor what the chain of calls comes to.
-- Assumes nothing.
use mathlib.Core.Path.{◌≡◌, refl, sym, ◌∙◌, ap, ap₂}
use mathlib.Core.Logic.{⊎_elim}
use mathlib.Core.Bool.{Bool, true, false, cond, false≢true}
use mathlib.Core.Option.{Option, none, some}
use mathlib.Core.List.Memᴰ
use mathlib.Core.List.Permᴰ
use mathlib.Core.List.{List, [], ◌∷◌, ◌++◌, Permᴰ}
use Prim.Native.Nat.{ℕ, zero, suc, ◌≤◌}
use native.Mathlib.Omega.{arith}
use lib.ListN.{length, take}
use Rattle.laws.proofs.Members.{In, here, there, nowhere, where_in}
use Rattle.paper.specs.Answers.{Ruling, accept, then, Made, Chosen}
use Rattle.paper.specs.Predict.{or_else}
use Rattle.paper.specs.Lists.{Opening, begins_some, stands_under, become, longest_within, longest_string, longest}
use Rattle.paper.specs.Lists.{or_none, defined, all_beginnings, distinct}
use Rattle.trees.specs.Reach.{view}
use Rattle.trees.specs.Bounds.{Bounded}
use Rattle.trees.specs.Says.{told, Stands, foretold}
use Rattle.trees.specs.Chain.{chain, Conflict, UnitedLists, Chained, united, clashed, Reordered}
use Rattle.trees.specs.Chain.{SameEnd, both_united, both_clashed}
use Rattle.trees.proofs.Predicts.{chosen_by_view}
use Rattle.trees.proofs.ListTests.{some_sound, some_complete, under_sound, under_none}
use Rattle.trees.proofs.Tells.{stands_more, begun_more}
use Rattle.trees.proofs.Beginnings.{begun_in, nil_in, in_begun, distinct_le}
use Rattle.trees.proofs.Chained.{chain_good}

-- ---- k
list_le : (ls : List Opening) (l : Opening) → In l ls → longest_string l.strings ≤ longest ls
unfolding longest
list_le [] l i = absurd (nowhere i)
list_le (m ∷ ls) l i = ⊎_elim
    (λ e. omega (arith, ap (λ (z : Opening). longest_string z.strings) e))
    (λ j. omega (arith, list_le ls l j))
    (where_in i)

longest_le : (ls ls' : List Opening) → ((l : Opening) → In l ls → In l ls') → longest ls ≤ longest ls'
unfolding longest
longest_le [] ls' h = omega arith
longest_le (l ∷ ls) ls' h =
    omega (arith, list_le ls' l (h l here), longest_le ls ls' (λ m i. h m (there i)))

beginnings_le : (ls ls' : List Opening) → ((l : Opening) → In l ls → In l ls') →
    length (distinct (all_beginnings ls)) ≤ length (distinct (all_beginnings ls'))
beginnings_le ls ls' h = distinct_le (all_beginnings ls) (all_beginnings ls') (λ p i. ⊎_elim
    (λ e. Memᴰ.cast e (nil_in ls'))
    (λ b. begun_in ls' p (begun_more ls ls' h p b))
    (in_begun ls p i))

module _ (ls ls' : List Opening) (o : Reordered ls ls') where
  pub longest_same : longest ls ≡ longest ls'
  longest_same = omega (arith, longest_le ls ls' o.there, longest_le ls' ls o.back)

  pub beginnings_same : length (distinct (all_beginnings ls)) ≡ length (distinct (all_beginnings ls'))
  beginnings_same = omega (arith, beginnings_le ls ls' o.there, beginnings_le ls' ls o.back)

  begins_same : (σ : List ℕ) → begins_some ls σ ≡ begins_some ls' σ
  begins_same σ = go (begins_some ls σ) refl (begins_some ls' σ) refl
    where
      forth : begins_some ls σ ≡ true → begins_some ls' σ ≡ true
      forth e = some_complete ls' σ (begun_more ls ls' o.there σ (some_sound ls σ e))

      back : begins_some ls' σ ≡ true → begins_some ls σ ≡ true
      back e = some_complete ls σ (begun_more ls' ls o.back σ (some_sound ls' σ e))

      go : (a : Bool) → begins_some ls σ ≡ a → (b : Bool) → begins_some ls' σ ≡ b →
          begins_some ls σ ≡ begins_some ls' σ
      go true e b f = e ∙ sym (forth e)
      go false e true f = absurd (false≢true (sym e ∙ back f))
      go false e false f = e ∙ sym f

  module _ (one : (σ : List ℕ) (p q : ℕ) → Stands ls σ p → Stands ls σ q → p ≡ q) where
    under_same : (σ : List ℕ) → stands_under ls σ ≡ stands_under ls' σ
    under_same σ = go (stands_under ls σ) refl (stands_under ls' σ) refl
      where
        go : (a : Option ℕ) → stands_under ls σ ≡ a → (b : Option ℕ) → stands_under ls' σ ≡ b →
            stands_under ls σ ≡ stands_under ls' σ
        go none e none f = e ∙ sym f
        go none e (some q) f = absurd (under_none ls σ e q (stands_more ls' ls o.back σ q (under_sound ls' σ q f)))
        go (some p) e none f = absurd (under_none ls' σ f p (stands_more ls ls' o.there σ p (under_sound ls σ p e)))
        go (some p) e (some q) f =
            let z = one σ p q (under_sound ls σ p e) (stands_more ls' ls o.back σ q (under_sound ls' σ q f)) in
            e ∙ ap some z ∙ sym f

    pub told_same : (σ : List ℕ) → told ls σ ≡ told ls' σ
    unfolding told
    told_same σ = rw (begins_same σ, under_same σ)

    become_same : (ts p : List ℕ) → become ls p ts ≡ become ls' p ts
    unfolding become
    become_same [] p = refl
    become_same (t ∷ ts) p =
        let next : List Opening → List ℕ = λ ms. cond (begins_some ms (p ++ (t ∷ []))) (p ++ (t ∷ [])) p in
        become_same ts (next ls)
        ∙ ap (λ (b : Bool). become ls' (cond b (p ++ (t ∷ [])) p) ts) (begins_same (p ++ (t ∷ [])))

    within_same : (p : List ℕ) (n : ℕ) → longest_within ls p n ≡ longest_within ls' p n
    unfolding longest_within
    within_same p zero = under_same []
    within_same p (suc n) = ap₂ or_else (under_same (take (suc n) p)) (within_same p n)

    -- what the lists define
    pub foretold_same : (tokens : List ℕ) → foretold ls tokens ≡ foretold ls' tokens
    unfolding defined
    foretold_same tokens =
        let p : List ℕ = become ls [] (take (longest ls) tokens) in
        let p' : List ℕ = become ls' [] (take (longest ls') tokens) in
        let way : p ≡ p' = become_same (take (longest ls) tokens) []
        ∙ ap (λ (n : ℕ). become ls' [] (take n tokens)) longest_same in
        let answer : List ℕ → Option ℕ → Ruling Chosen = λ z o.
        then (or_none o) (λ q. accept (record { production = q; entered = length z })) in
        ap₂ answer way (within_same p (length p) ∙ ap (λ (z : List ℕ). longest_within ls' z (length z)) way)

  conflict_same : (p q : ℕ) → Conflict ls p q → Conflict ls' p q
  conflict_same p q c = record {
    string = c.string;
    first = stands_more ls ls' o.there c.string p c.first;
    second = stands_more ls ls' o.there c.string q c.second;
    differ = c.differ;
  }

no_conflict : (ls : List Opening) (m : Made) → UnitedLists ls m → (p q : ℕ) → Conflict ls p q → ⊥
no_conflict ls m u p q c = c.differ (u.one_number c.string p q c.first c.second)

turned : (ls ls' : List Opening) → Reordered ls ls' → Reordered ls' ls
turned ls ls' o = record { there = o.back; back = o.there }

same_end : (ls ls' : List Opening) → Reordered ls ls' → {g g' : Ruling Made} → Chained ls g → Chained ls' g' →
    SameEnd g g'
same_end ls ls' o (united {m} u) (united {m = m'} u') =
    let views : (σ : List ℕ) → view m.table σ ≡ view m'.table σ =
    λ σ. u.says σ ∙ told_same ls ls' o u.one_number σ ∙ sym (u'.says σ) in
    let k : m.table.k ≡ m'.table.k = u.longest ∙ longest_same ls ls' o ∙ sym u'.longest in
    both_united (record {
      views = views;
      longest = k;
      states = u.states ∙ beginnings_same ls ls' o ∙ sym u'.states;
      predictions = chosen_by_view m.table m'.table views k;
    })
same_end ls ls' o (united {m} u) (clashed {p} {q} c) =
    absurd (no_conflict ls m u p q (conflict_same ls' ls (turned ls ls' o) p q c))
same_end ls ls' o (clashed {p} {q} c) (united {m} u) = absurd (no_conflict ls' m u p q (conflict_same ls ls' o p q c))
same_end ls ls' o (clashed c) (clashed c') = both_clashed

-- Lists within bounds, built and united in one order and in another: the same openings, k, state count and predictions.
pub united_in_any_order : (l : Opening) (ls : List Opening) (l' : Opening) (ls' : List Opening) →
    Reordered (l ∷ ls) (l' ∷ ls') → ((m : Opening) → In m (l ∷ ls) → Bounded m) →
    length (distinct (all_beginnings (l ∷ ls))) ≤ 1024 → SameEnd (chain l ls) (chain l' ls')
united_in_any_order l ls l' ls' o bd bound =
    same_end (l ∷ ls) (l' ∷ ls') o (chain_good l ls bd bound)
    (chain_good l' ls' (λ m i. bd m (o.back m i)) (omega (arith, bound, beginnings_same (l ∷ ls) (l' ∷ ls') o)))

-- ---- a permutation is such an order
perm_in : {A : Type 0} {a : A} {xs ys : List A} → Permᴰ xs ys → In a xs → In a ys
perm_in Permᴰ.nil i = i
perm_in (Permᴰ.cons e d) i = ⊎_elim (λ k. Memᴰ.head (k ∙ e)) (λ j. there (perm_in d j)) (where_in i)
perm_in (Permᴰ.swap e f) i = ⊎_elim
    (λ k. there (Memᴰ.head (k ∙ e)))
    (λ j. ⊎_elim (λ k. Memᴰ.head (k ∙ f)) (λ m. there (there m)) (where_in j))
    (where_in i)
perm_in (Permᴰ.trans d c) i = perm_in c (perm_in d i)

pub permuted : {ls ls' : List Opening} → Permᴰ ls ls' → Reordered ls ls'
permuted d = record { there = λ l i. perm_in d i; back = λ l i. perm_in (Permᴰ.symm d) i }
