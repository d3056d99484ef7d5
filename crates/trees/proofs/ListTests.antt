-- The tests by which the definition of what lists define is made: begins, among, stands under. Assumes nothing.
use mathlib.Core.Path.{◌≡◌, refl, sym, ◌∙◌, ap, ap₂, subst}
use mathlib.Core.Logic.{⊎_elim, ◌⊎◌, inl, inr}
use mathlib.Core.Bool.{Bool, true, false, cond, false≢true}
use mathlib.Core.Option.{Option, none, some}
use mathlib.Core.List.Memᴰ
use mathlib.Core.List.{List, [], ◌∷◌, ◌++◌, append-nil}
use Prim.Native.Nat.{ℕ}
use lib.Dec.{eqb}
use borrow.Author.Tests.{eq-eqb, eqb-true}
use Rattle.laws.proofs.Members.{In, here, there, nowhere, where_in}
use Rattle.laws.proofs.Tests.{never}
use Rattle.laws.proofs.Every.{first_of, second_of, or_cases, or_left, or_right}
use Rattle.paper.specs.Lists.{Opening, begins, begins_one, begins_some, same_string, among, stands_under}
use Rattle.trees.specs.Says.{Begins, Stands, Begun}

-- ---- begins
pub begins_sound : (p σ : List ℕ) → begins p σ ≡ true → Begins p σ
unfolding begins
begins_sound [] σ e = (σ, refl)
begins_sound (a ∷ p) [] e = absurd (false≢true e)
begins_sound (a ∷ p) (b ∷ σ) e =
    let h = eqb-true a b (first_of (eqb a b) (begins p σ) e) in
    let (c, f) = begins_sound p σ (second_of (eqb a b) (begins p σ) e) in
    (c, ap₂ (λ (x : ℕ) (y : List ℕ). x ∷ y) (sym h) f)

pub begins_self : (p b : List ℕ) → begins p (p ++ b) ≡ true
unfolding begins
begins_self [] b = refl
begins_self (a ∷ p) b = rw (eq-eqb a a refl) (begins_self p b)

one_sound : (p : List ℕ) (σs : List (List ℕ)) → begins_one p σs ≡ true → (σ : List ℕ) × In σ σs × Begins p σ
unfolding begins_one
one_sound p [] e = absurd (false≢true e)
one_sound p (σ ∷ σs) e = ⊎_elim
    (λ k. (σ, here, begins_sound p σ k))
    (λ k. let (τ, i, b) = one_sound p σs k in (τ, there i, b))
    (or_cases (begins p σ) (begins_one p σs) e)

one_complete : (p : List ℕ) (σs : List (List ℕ)) (σ : List ℕ) → In σ σs → Begins p σ → begins_one p σs ≡ true
unfolding begins_one
one_complete p [] σ i b = absurd (nowhere i)
one_complete p (τ ∷ σs) σ i b = ⊎_elim
    (λ e. or_left (begins p τ) (begins_one p σs) (ap (begins p) (sym e ∙ b.1) ∙ begins_self p b.0))
    (λ j. or_right (begins p τ) (begins_one p σs) (one_complete p σs σ j b))
    (where_in i)

pub some_sound : (ls : List Opening) (p : List ℕ) → begins_some ls p ≡ true → Begun ls p
unfolding begins_some
some_sound [] p e = absurd (false≢true e)
some_sound (l ∷ ls) p e = ⊎_elim
    (λ k.
    let (σ, i, b) = one_sound p l.strings k in
    record { list = l; listed = here; string = σ; within = i; begins = b })
    (λ k.
    let s = some_sound ls p k in
    record {
      list = s.list;
      listed = there s.listed;
      string = s.string;
      within = s.within;
      begins = s.begins;
    })
    (or_cases (begins_one p l.strings) (begins_some ls p) e)

pub some_complete : (ls : List Opening) (p : List ℕ) → Begun ls p → begins_some ls p ≡ true
unfolding begins_some
some_complete [] p b = absurd (nowhere b.listed)
some_complete (l ∷ ls) p b = ⊎_elim
    (λ e. or_left (begins_one p l.strings) (begins_some ls p) (one_complete p l.strings b.string
    (subst (λ (z : Opening). In b.string z.strings) e b.within) b.begins))
    (λ j. or_right (begins_one p l.strings) (begins_some ls p) (some_complete ls p (record {
      list = b.list;
      listed = j;
      string = b.string;
      within = b.within;
      begins = b.begins;
    })))
    (where_in b.listed)

-- ---- among
pub same_string_sound : (p σ : List ℕ) → same_string p σ ≡ true → p ≡ σ
unfolding same_string
same_string_sound [] [] e = refl
same_string_sound [] (b ∷ σ) e = absurd (false≢true e)
same_string_sound (a ∷ p) [] e = absurd (false≢true e)
same_string_sound (a ∷ p) (b ∷ σ) e =
    ap₂ (λ (x : ℕ) (y : List ℕ). x ∷ y) (eqb-true a b (first_of (eqb a b) (same_string p σ) e))
    (same_string_sound p σ (second_of (eqb a b) (same_string p σ) e))

pub same_string_self : (p : List ℕ) → same_string p p ≡ true
unfolding same_string
same_string_self [] = refl
same_string_self (a ∷ p) = rw (eq-eqb a a refl) (same_string_self p)

pub among_sound : (p : List ℕ) (σs : List (List ℕ)) → among p σs ≡ true → In p σs
unfolding among
among_sound p [] e = absurd (false≢true e)
among_sound p (σ ∷ σs) e = ⊎_elim
    (λ k. Memᴰ.head (same_string_sound p σ k))
    (λ k. there (among_sound p σs k))
    (or_cases (same_string p σ) (among p σs) e)

pub among_complete : (p : List ℕ) (σs : List (List ℕ)) → In p σs → among p σs ≡ true
unfolding among
among_complete p [] i = absurd (nowhere i)
among_complete p (σ ∷ σs) i = ⊎_elim
    (λ e. or_left (same_string p σ) (among p σs) (ap (same_string p) (sym e) ∙ same_string_self p))
    (λ j. or_right (same_string p σ) (among p σs) (among_complete p σs j))
    (where_in i)

-- ---- stands under
pub under_sound : (ls : List Opening) (p : List ℕ) (q : ℕ) → stands_under ls p ≡ some q → Stands ls p q
unfolding stands_under
under_sound [] p q e = absurd (never e)
under_sound (l ∷ ls) p q e = go (among p l.strings) refl e (under_sound ls p q)
  where
    go : (b : Bool) → among p l.strings ≡ b → cond b (some l.production) (stands_under ls p) ≡ some q →
        (stands_under ls p ≡ some q → Stands ls p q) → Stands (l ∷ ls) p q
    go true k h ih =
        record { list = l; listed = here; under = cc; string = among_sound p l.strings k }
    go false k h ih =
        let s = ih h in
        record { list = s.list; listed = there s.listed; under = s.under; string = s.string }

pub under_none : (ls : List Opening) (p : List ℕ) → stands_under ls p ≡ none → (q : ℕ) → Stands ls p q → ⊥
unfolding stands_under
under_none [] p e q s = nowhere s.listed
under_none (l ∷ ls) p e q s = go (among p l.strings) refl e (where_in s.listed) (under_none ls p)
  where
    go : (b : Bool) → among p l.strings ≡ b → cond b (some l.production) (stands_under ls p) ≡ none →
        (s.list ≡ l) ⊎ In s.list ls →
        (stands_under ls p ≡ none → (q : ℕ) → Stands ls p q → ⊥) → ⊥
    go true k h i ih = never (sym h)
    go false k h (inl i) ih = false≢true (sym k
        ∙ among_complete p l.strings (subst (λ (z : Opening). In p z.strings) i s.string))
    go false k h (inr i) ih = ih h q (record { list = s.list; listed = i; under = s.under; string = s.string })

-- a string begins itself
pub stands_begun : (ls : List Opening) (σ : List ℕ) (q : ℕ) → Stands ls σ q → Begun ls σ
stands_begun ls σ q s = record {
  list = s.list;
  listed = s.listed;
  string = σ;
  within = s.string;
  begins = ([], sym (append-nil σ));
}

pub under_begins : (ls : List Opening) (σ : List ℕ) → begins_some ls σ ≡ false → stands_under ls σ ≡ none
under_begins ls σ e = go (stands_under ls σ) refl
  where
    go : (o : Option ℕ) → stands_under ls σ ≡ o → stands_under ls σ ≡ none
    go none h = h
    go (some q) h =
        absurd (false≢true (sym e ∙ some_complete ls σ (stands_begun ls σ q (under_sound ls σ q h))))
