-- The beginnings of lists, counted: a tree that tells lists has as many states as they have distinct beginnings.
-- Assumes nothing.
use mathlib.Core.Path.{◌≡◌, refl, sym, ◌∙◌, ap, subst}
use mathlib.Core.Logic.{⊎_elim, ◌⊎◌, inl, inr}
use mathlib.Core.Bool.{Bool, true, false, cond, false≢true}
use mathlib.Core.List.Memᴰ
use mathlib.Core.List.{List, [], ◌∷◌, ◌++◌}
use Prim.Native.Nat.{ℕ, suc, ◌≤◌}
use native.Mathlib.Omega.{arith}
use lib.ListN.{length}
use Rattle.laws.proofs.Members.{In, here, there, nowhere, where_in}
use Rattle.paper.specs.Rows.{Table}
use Rattle.paper.specs.Lists.{Opening, among, beginnings, string_beginnings, all_beginnings, distinct}
use Rattle.trees.specs.Reach.{said, all_onward, reach, view}
use Rattle.trees.specs.Says.{Begins, Begun}
use Rattle.trees.specs.Accepting.{Apart, apart_nil, apart_cons}
use Rattle.trees.proofs.ListTests.{among_sound, among_complete}
use Rattle.trees.proofs.Counting.{subset_le}
use Rattle.trees.proofs.Tree.{Tree}
use Rattle.trees.proofs.States.{states_le, le_states}
use Rattle.trees.proofs.Tells.{Tells, begun_more}

in_beginnings : (p b : List ℕ) → In p (beginnings (p ++ b))
unfolding beginnings
in_beginnings [] [] = here
in_beginnings [] (t ∷ b) = here
in_beginnings (t ∷ p) b = there (Memᴰ.map (λ z. t ∷ z) (in_beginnings p b))

in_strings : (p : List ℕ) (σs : List (List ℕ)) (σ : List ℕ) → In σ σs → Begins p σ →
    In p (string_beginnings σs)
unfolding string_beginnings
in_strings p [] σ i b = absurd (nowhere i)
in_strings p (τ ∷ σs) σ i b = ⊎_elim
    (λ e. Memᴰ.append_left (string_beginnings σs)
    (subst (λ (z : List ℕ). In p (beginnings z)) (sym (sym e ∙ b.1)) (in_beginnings p b.0)))
    (λ j. Memᴰ.append_right (beginnings τ) (in_strings p σs σ j b))
    (where_in i)

pub begun_in : (ls : List Opening) (p : List ℕ) → Begun ls p → In p (all_beginnings ls)
unfolding all_beginnings
begun_in [] p b = absurd (nowhere b.listed)
begun_in (l ∷ ls) p b = ⊎_elim
    (λ e. Memᴰ.append_left (all_beginnings ls) (in_strings p l.strings b.string
    (subst (λ (z : Opening). In b.string z.strings) e b.within) b.begins))
    (λ j. Memᴰ.append_right (string_beginnings l.strings) (begun_in ls p (record {
      list = b.list;
      listed = j;
      string = b.string;
      within = b.within;
      begins = b.begins;
    })))
    (where_in b.listed)

pub nil_in : (ls : List Opening) → In [] (all_beginnings ls)
unfolding all_beginnings
nil_in [] = here
nil_in (l ∷ ls) = Memᴰ.append_right (string_beginnings l.strings) (nil_in ls)

pub in_distinct : (ps : List (List ℕ)) (p : List ℕ) → In p ps → In p (distinct ps)
unfolding distinct
in_distinct [] p i = absurd (nowhere i)
in_distinct (x ∷ ps) p i = go (among x ps) refl (where_in i) (in_distinct ps p)
  where
    go : (b : Bool) → among x ps ≡ b → (p ≡ x) ⊎ In p ps → (In p ps → In p (distinct ps)) →
        In p (cond b (distinct ps) (x ∷ distinct ps))
    go true e (inl k) ih = ih (Memᴰ.cast k (among_sound x ps e))
    go true e (inr k) ih = ih k
    go false e (inl k) ih = Memᴰ.head k
    go false e (inr k) ih = there (ih k)

distinct_in : (ps : List (List ℕ)) (p : List ℕ) → In p (distinct ps) → In p ps
unfolding distinct
distinct_in [] p i = i
distinct_in (x ∷ ps) p i = go (among x ps) i (distinct_in ps p)
  where
    go : (b : Bool) → In p (cond b (distinct ps) (x ∷ distinct ps)) →
        (In p (distinct ps) → In p ps) → In p (x ∷ ps)
    go true j ih = there (ih j)
    go false j ih = ⊎_elim (λ e. Memᴰ.head e) (λ k. there (ih k)) (where_in j)

pub distinct_apart : (ps : List (List ℕ)) → Apart (distinct ps)
unfolding distinct
distinct_apart [] = apart_nil
distinct_apart (x ∷ ps) = go (among x ps) refl (distinct_apart ps)
  where
    go : (b : Bool) → among x ps ≡ b → Apart (distinct ps) → Apart (cond b (distinct ps) (x ∷ distinct ps))
    go true e ih = ih
    go false e ih = apart_cons (λ i. false≢true (sym e ∙ among_complete x ps (distinct_in ps x i))) ih

-- the same members are as many distinct ones
pub distinct_le : (ps qs : List (List ℕ)) → ((p : List ℕ) → In p ps → In p qs) →
    length (distinct ps) ≤ length (distinct qs)
distinct_le ps qs h = subset_le (distinct ps) (distinct qs) (distinct_apart ps)
    (λ p i. in_distinct qs p (h p (distinct_in ps p i)))

-- ---- what is a beginning begins a string
beginnings_in : (σ p : List ℕ) → In p (beginnings σ) → Begins p σ
unfolding beginnings
beginnings_in [] p i = ([], sym (ap (λ (z : List ℕ). z ++ []) (Memᴰ.eq_of_singleton i)))
beginnings_in (t ∷ σ) p i = ⊎_elim
    (λ e. (t ∷ σ, sym (ap (λ (z : List ℕ). z ++ (t ∷ σ)) e)))
    (λ j.
    let (z, k, e) = Memᴰ.of_map (λ p. t ∷ p) (beginnings σ) j in
    let (b, f) = beginnings_in σ z k in
    (b, ap (λ (y : List ℕ). t ∷ y) f ∙ ap (λ (y : List ℕ). y ++ b) e))
    (where_in i)

strings_in : (σs : List (List ℕ)) (p : List ℕ) → In p (string_beginnings σs) →
    (σ : List ℕ) × In σ σs × Begins p σ
unfolding string_beginnings
strings_in [] p i = absurd (nowhere i)
strings_in (σ ∷ σs) p i = ⊎_elim
    (λ j. (σ, here, beginnings_in σ p j))
    (λ j. let (τ, k, b) = strings_in σs p j in (τ, there k, b))
    (Memᴰ.append_cases (beginnings σ) i)

pub in_begun : (ls : List Opening) (p : List ℕ) → In p (all_beginnings ls) → (p ≡ []) ⊎ Begun ls p
unfolding all_beginnings
in_begun [] p i = inl (Memᴰ.eq_of_singleton i)
in_begun (l ∷ ls) p i = ⊎_elim
    (λ j.
    let (σ, k, b) = strings_in l.strings p j in
    inr (record { list = l; listed = here; string = σ; within = k; begins = b }))
    (λ j. ⊎_elim (λ e. inl e) (λ b. inr (begun_more ls (l ∷ ls) (λ m k. there k) p b)) (in_begun ls p j))
    (Memᴰ.append_cases (string_beginnings l.strings) i)

-- ---- the states of a tree that tells the lists
-- some of the lists: no more states than all have beginnings, so never 14 with at most 1,024
pub tells_size : (all ls : List Opening) → ((l : Opening) → In l ls → In l all) →
    (t : Table) → Tree t.rows → Tells (view t) ls → suc (length t.rows) ≤ length (distinct (all_beginnings all))
tells_size all ls sub t tr tells = states_le t tr (distinct (all_beginnings all)) (λ σ x e.
    in_distinct (all_beginnings all) σ (⊎_elim
    (λ k. Memᴰ.cast k (nil_in all))
    (λ b. begun_in all σ (begun_more ls all sub σ b))
    (tells.dom σ x e)))

-- as many states as beginnings
pub tells_count : (ls : List Opening) (t : Table) → Tree t.rows → Tells (view t) ls →
    suc (length t.rows) ≡ length (distinct (all_beginnings ls))
unfolding view reach said all_onward
tells_count ls t tr tells =
    let up = tells_size ls ls (λ l i. i) t tr tells in
    let down = le_states t tr (distinct (all_beginnings ls)) (distinct_apart (all_beginnings ls)) (λ σ i. ⊎_elim
    (λ e. (t.prod0, ap (view t) e))
    (λ b. tells.begun σ b)
    (in_begun ls σ (distinct_in (all_beginnings ls) σ i))) in
    omega (arith, up, down)
