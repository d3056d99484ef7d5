-- Intake predict goes by what the table says of each string and by k, and by nothing else. Assumes nothing.
use mathlib.Core.Path.{◌≡◌, refl, sym, ◌∙◌, ap, ap₂, fun_ext}
use mathlib.Core.Option.{Option, none, some}
use mathlib.Core.List.{List, [], ◌∷◌, reverse, reverse-reverse}
use Prim.Native.Nat.{ℕ, suc}
use lib.ListN.{length, take}
use Rattle.paper.specs.declared.Mode.TheVariants.{Intake}
use Rattle.paper.specs.Rows.{Row, Table, find}
use Rattle.paper.specs.Answers.{Ruling, accept, refuse, Chosen}
use Rattle.paper.specs.Predict.{Walk, or_else, go_by, step, walk, start, fallback, answer, chosen}
use Rattle.trees.specs.Reach.{Seat, sit, Word, said, view}
use Rattle.trees.proofs.Paths.{path, word, view_word, onward_some, onward_none}
use Rattle.trees.proofs.Took.{lead}

-- The production that a word holds.
unfoldable pub claim : Word → Option ℕ
claim none = none
claim (some q) = q

-- p then t, if that is a beginning, else p; last token first.
unfoldable pub advance : List ℕ → ℕ → Word → List ℕ
advance p t none = p
advance p t (some q) = t ∷ p

unfoldable pub travel : (List ℕ → Word) → List ℕ → List ℕ → List ℕ
travel D p [] = p
travel D p (t ∷ ts) = travel D (advance p t (D (t ∷ p))) ts

-- The production of the longest claimed beginning of p.
unfoldable pub best : (List ℕ → Word) → List ℕ → Option ℕ
best D [] = claim (D [])
best D (t ∷ p) = or_else (claim (D (t ∷ p))) (best D p)

unfoldable pub told_of : Option ℕ → ℕ → Ruling Chosen
told_of none n = refuse 11 []
told_of (some q) n = accept (record { production = q; entered = n })

or_else_assoc : (x y z : Option ℕ) → or_else (or_else x y) z ≡ or_else x (or_else y z)
unfolding or_else
or_else_assoc none y z = refl
or_else_assoc (some a) y z = refl

answer_is : (p l : Option ℕ) (n : ℕ) → answer Intake p n l ≡ told_of (or_else l p) n
unfolding answer fallback told_of or_else
answer_is none none n = refl
answer_is (some p) none n = refl
answer_is p (some q) n = refl

-- The walk w stands where the beginning p leads.
pub record StandsAt (t : Table) (p : List ℕ) (w : Walk) : Type 0 where
  pub seat : Seat
  pub at : lead t p ≡ some seat
  pub is : seat.state ≡ w.state
  pub count : w.entered ≡ length p
  pub last : or_else w.last t.prod0 ≡ best (word t) p

module _ (t : Table) (p : List ℕ) (w : Walk) (u : ℕ) (s : StandsAt t p w) where
  one_step : (o : Option Row) → find t.rows w.state u ≡ o →
      StandsAt t (advance p u (word t (u ∷ p))) (go_by w o)
  unfolding go_by path said advance best claim word
  one_step none e =
      let f = find t.rows in
      let h : f s.seat.state u ≡ none = ap (λ (z : ℕ). f z u) s.is ∙ e in
      let e' : word t (u ∷ p) ≡ none = ap said (onward_none f (lead t p) u s.seat s.at h) in
      rw (e', advance) s
  one_step (some r) e =
      let f = find t.rows in
      let h : f s.seat.state u ≡ some r = ap (λ (z : ℕ). f z u) s.is ∙ e in
      let there : lead t (u ∷ p) ≡ some (sit r) = onward_some f (lead t p) u s.seat s.at r h in
      let e' : word t (u ∷ p) ≡ some r.production = ap said there in
      rw (e', advance) (record {
        seat = sit r;
        at = there;
        is = refl;
        count = ap suc s.count;
        last = or_else_assoc r.production w.last t.prod0 ∙ ap (or_else r.production) s.last
            ∙ rw (e', best);
      })

walks : (t : Table) (ts p : List ℕ) (w : Walk) → StandsAt t p w →
    StandsAt t (travel (word t) p ts) (walk t.rows ts w)
unfolding travel walk step
walks t [] p w s = s
walks t (u ∷ ts) p w s =
    walks t ts (advance p u (word t (u ∷ p))) (go_by w (find t.rows w.state u))
    (one_step t p w u s (find t.rows w.state u) refl)

pub chosen_is : (t : Table) (tokens : List ℕ) →
    let p = travel (word t) [] (take t.k tokens) in
    chosen Intake t tokens ≡ told_of (best (word t) p) (length p)
unfolding chosen start path best claim said or_else word
chosen_is t tokens =
    let ts = take t.k tokens in
    let w = walk t.rows ts start in
    let s = walks t ts [] start (record {
      seat = record { state = 0; production = t.prod0 };
      at = refl;
      is = refl;
      count = refl;
      last = refl;
    }) in
    answer_is t.prod0 w.last w.entered ∙ ap₂ told_of s.last s.count

-- Two tables with one view and one k give one answer.
pub chosen_by_view : (t u : Table) → ((σ : List ℕ) → view t σ ≡ view u σ) → t.k ≡ u.k → (tokens : List ℕ) →
    chosen Intake t tokens ≡ chosen Intake u tokens
chosen_by_view t u h k tokens =
    let words : (v : List ℕ) → word t v ≡ word u v = λ v.
    sym (view_word t (reverse v) ∙ ap (word t) (reverse-reverse v)) ∙ h (reverse v)
    ∙ view_word u (reverse v) ∙ ap (word u) (reverse-reverse v) in
    let D : word t ≡ word u = fun_ext words in
    chosen_is t tokens
    ∙ ap₂ (λ (E : List ℕ → Word) (n : ℕ).
    told_of (best E (travel E [] (take n tokens))) (length (travel E [] (take n tokens)))) D k
    ∙ sym (chosen_is u tokens)
