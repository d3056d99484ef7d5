-- Words on a beginning: their join, the word on one beginning only, and how a row or a production more changes a word.
-- Assumes nothing.
use mathlib.Core.Path.{◌≡◌, refl, sym, ◌∙◌, ap}
use mathlib.Core.Logic.{◌⊎◌, inl, inr}
use mathlib.Core.Bool.{cond}
use mathlib.Core.Option.{Option, none, some}
use mathlib.Core.List.{List, ◌∷◌, List-discrete}
use Prim.Native.Nat.{ℕ}
use native.Mathlib.Decide.{ℕ_discrete}
use lib.Dec.{eqb}
use borrow.Author.Tests.{eq-eqb, ne_eqb}
use Rattle.laws.proofs.Tests.{never}
use Rattle.paper.specs.Rows.{Row}
use Rattle.paper.specs.declared.Mode.{Mode}
use Rattle.paper.specs.declared.Mode.TheVariants.{Archive, Intake}
use Rattle.paper.specs.Predict.{or_else}
use Rattle.trees.specs.Reach.{Seat, Finder, sit, Word, said}
use Rattle.trees.specs.Views.{merge, join}
use Rattle.trees.proofs.Paths.{path, Branching, unique}
use Rattle.trees.proofs.Paint.{painted}
use Rattle.trees.proofs.Grown.{Grown, grown_here, grown_other, grown_before}
use Rattle.trees.proofs.Given.{reseat, path_given}

pub join_none : (mode : Mode) (x : Word) → join mode x none ≡ x
unfolding join
join_none mode none = refl
join_none mode (some a) = refl

pub join_assoc : (mode : Mode) (x y z : Word) → join mode (join mode x y) z ≡ join mode x (join mode y z)
unfolding join merge or_else
join_assoc mode none y z = refl
join_assoc mode (some a) none z = refl
join_assoc mode (some a) (some b) none = refl
join_assoc Archive (some a) (some b) (some c) = refl
join_assoc Intake (some a) (some b) (some none) = refl
join_assoc Intake (some a) (some b) (some (some c)) = refl

pub join_off : (mode : Mode) (x y : Word) → join mode x y ≡ none → x ≡ none
unfolding join
join_off mode none y e = refl
join_off mode (some a) none e = absurd (never (sym e))
join_off mode (some a) (some b) e = absurd (never (sym e))

-- ---- in intake
pub join_claim : (x y : Word) (q : ℕ) → join Intake x y ≡ some (some q) → (x ≡ some (some q)) ⊎ (y ≡ some (some q))
unfolding join merge or_else
join_claim none y q e = inr e
join_claim (some a) none q e = inl e
join_claim (some a) (some none) q e = inl e
join_claim (some a) (some (some b)) q e = inr e

pub join_dom : (x y : Word) (z : Option ℕ) → join Intake x y ≡ some z →
    ((a : Option ℕ) × (x ≡ some a)) ⊎ ((a : Option ℕ) × (y ≡ some a))
unfolding join merge
join_dom none y z e = inr (z, e)
join_dom (some a) y z e = inl (a, refl)

pub join_left : (x y : Word) (a : Option ℕ) → x ≡ some a → (z : Option ℕ) × (join Intake x y ≡ some z)
unfolding join merge
join_left none y a e = absurd (never e)
join_left (some b) none a e = (b, refl)
join_left (some b) (some c) a e = (or_else c b, refl)

pub join_right : (x y : Word) (a : Option ℕ) → y ≡ some a → (z : Option ℕ) × (join Intake x y ≡ some z)
unfolding join merge
join_right none y a e = (a, e)
join_right (some b) none a e = absurd (never e)
join_right (some b) (some c) a e = (or_else c b, refl)

pub claim_right : (x y : Word) (q : ℕ) → y ≡ some (some q) → join Intake x y ≡ some (some q)
unfolding join merge or_else
claim_right none y q e = e
claim_right (some a) none q e = absurd (never e)
claim_right (some a) (some none) q e = let z : none ≡ some q = cc in absurd (never z)
claim_right (some a) (some (some b)) q e = e

pub claim_left : (x y : Word) (q : ℕ) → x ≡ some (some q) → ((q' : ℕ) → y ≡ some (some q') → q ≡ q') →
    join Intake x y ≡ some (some q)
unfolding join merge or_else
claim_left none y q e h = absurd (never e)
claim_left (some a) none q e h = e
claim_left (some a) (some none) q e h = e
claim_left (some a) (some (some b)) q e h = ap (λ (z : ℕ). some (some z)) (sym (h b refl))

-- ---- of one beginning u only
only_if : {u v : List ℕ} → Dec (v ≡ u) → Option ℕ → Word
only_if (yes e) q = some q
only_if (no n) q = none

pub only : List ℕ → Option ℕ → List ℕ → Word
only u q v = only_if (List-discrete ℕ_discrete v u) q

pub only_here : (u v : List ℕ) (q : Option ℕ) → v ≡ u → only u q v ≡ some q
unfolding only only_if
only_here u v q e = go (List-discrete ℕ_discrete v u)
  where
    go : (d : Dec (v ≡ u)) → only_if d q ≡ some q
    go (yes _) = refl
    go (no n) = absurd (n e)

pub only_off : (u v : List ℕ) (q : Option ℕ) → (v ≡ u → ⊥) → only u q v ≡ none
unfolding only only_if
only_off u v q h = go (List-discrete ℕ_discrete v u)
  where
    go : (d : Dec (v ≡ u)) → only_if d q ≡ none
    go (yes e) = absurd (h e)
    go (no n) = refl

-- a new row adds its own word
pub grown_word : (mode : Mode) (p : Option ℕ) (f f' : Finder) (w : List ℕ) (x : Seat) (t : ℕ) (r : Row) →
    Grown p f f' w x t r → (v : List ℕ) →
    said (path p f' v) ≡ join mode (said (path p f v)) (only (t ∷ w) r.production v)
unfolding said join
grown_word mode p f f' w x t r g v = go (List-discrete ℕ_discrete v (t ∷ w))
  where
    go : Dec (v ≡ t ∷ w) → said (path p f' v) ≡ join mode (said (path p f v)) (only (t ∷ w) r.production v)
    go (yes e) =
        let a : path p f' v ≡ some (sit r) = ap (path p f') e ∙ grown_here p f f' w x t r g in
        let b : path p f v ≡ none = ap (path p f) e ∙ grown_before p f f' w x t r g in
        rw (a, b, only_here (t ∷ w) v r.production e)
    go (no h) = rw (grown_other p f f' w x t r g v h, only_off (t ∷ w) v r.production h, join_none)

-- a state that takes the production q, as the mode has it
pub given_word : (mode : Mode) (p : Option ℕ) (f f' : Finder) (u : List ℕ) (x : Seat) (s : ℕ) (q : Option ℕ) →
    Branching f →
    ((a b : ℕ) → f' a b ≡ painted s (merge mode x.production q) (f a b)) → path p f u ≡ some x → x.state ≡ s →
    (v : List ℕ) →
    said (path (cond (eqb s 0) (merge mode x.production q) p) f' v) ≡ join mode (said (path p f v)) (only u q v)
unfolding said join reseat
given_word mode p f f' u x s q tree h e i v =
    rw (path_given f f' s (merge mode x.production q) h p v) (go (List-discrete ℕ_discrete v u))
  where
    q' : Option ℕ
    q' = merge mode x.production q

    off : (o : Option Seat) → path p f v ≡ o → (v ≡ u → ⊥) → said (reseat s q' o) ≡ join mode (said o) none
    off none k n = refl
    off (some y) k n = rw (ne_eqb y.state s (λ l. n (unique p f tree v u y x k e (l ∙ sym i))))

    go : Dec (v ≡ u) → said (reseat s q' (path p f v)) ≡ join mode (said (path p f v)) (only u q v)
    go (yes k) = rw (ap (path p f) k ∙ e, only_here u v q k) (ap some (rw (eq-eqb x.state s i)))
    go (no n) = rw (only_off u v q n) (off (path p f v) refl n)

-- a beginning that was one before
pub known_word : (p : Option ℕ) (f : Finder) (u : List ℕ) (x : Seat) → path p f u ≡ some x → (v : List ℕ) →
    said (path p f v) ≡ join Intake (said (path p f v)) (only u none v)
unfolding said join merge or_else
known_word p f u x e v = go (List-discrete ℕ_discrete v u)
  where
    go : Dec (v ≡ u) → said (path p f v) ≡ join Intake (said (path p f v)) (only u none v)
    go (yes k) = rw (ap (path p f) k ∙ e, only_here u v none k)
    go (no n) = rw (only_off u v none n, join_none)
