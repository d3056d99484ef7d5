-- The second's rows from a place on: what the array and the map of matches hold, and what is left to take.
-- Assumes nothing.
use mathlib.Core.Path.{◌≡◌, refl, ap, sym, ◌∙◌, subst}
use mathlib.Core.Bool.{Bool, true, false, cond}
use mathlib.Core.Option.{Option, none}
use mathlib.Core.List.{List, [], ◌∷◌, ◌++◌}
use Prim.Native.Nat.{ℕ, ◌+◌, ◌/◌, ◌<◌, ◌≤◌}
use native.Mathlib.Omega.{arith}
use borrow.Author.Tests.{eq-eqb, ne_eqb}
use lib.Dec.{eqb}
use lib.ListN.{length, get_or, set}
use lib.IntN.{ℤ}
use Rattle.laws.proofs.Tests.{never}
use Rattle.paper.specs.declared.Mode.{Mode}
use Rattle.paper.specs.declared.Mode.TheVariants.{Archive, Intake}
use Rattle.paper.specs.Rows.{Row, Table, rows_in, find}
use Rattle.paper.specs.declared.Refusal.{Refusal}
use Rattle.paper.specs.Answers.{refuse, number, detail}
use Rattle.paper.specs.Build.{Standing}
use Rattle.paper.specs.Predict.{or_else}
use Rattle.paper.specs.Unite.{matched, take_rows}
use Rattle.rows.specs.Places.{row_at, rest, bare}
use Rattle.rows.proofs.Rest.{rest_cons, rest_end}
use Rattle.rows.proofs.Fits.{Fit}
use Rattle.rows.proofs.Passing.{fit_at}
use Rattle.trees.specs.Views.{merge}
use Rattle.trees.proofs.Tree.{Tree}
use Rattle.trees.proofs.Checked.{passes_tree}
use Rattle.trees.proofs.Paths.{word}
use Rattle.trees.proofs.Order.{Next, Ordered, ordered}
use Rattle.trees.proofs.Matching.{Matching}
use Rattle.trees.proofs.United.{begun, matching_start}
use Rattle.counts.specs.Arrays.{Holds, Clear}
use Rattle.counts.proofs.Arrays.{holds_set, holds_as}
use Rattle.grow.specs.declared.Growing.{Growing}
use Rattle.grow.specs.Seen.{rows_of}
use Rattle.unite_taking.specs.Taking.{
  so_far,
  taking,
  all_rows,
  Stands,
  Over,
  Stops,
  Unites,
  Clashes,
  Overflows,
  Halts,
  Treed,
  refused,
  full,
  clashed,
  filled,
}
use Rattle.unite_taking.proofs.Steps.{
  one_row,
  as_one_row,
  after,
  step_refused,
  step_taken,
  match_on,
  first_row,
  many_stay,
}

-- rows as a table that says nothing of state 0
abbrev pub plain : List Row → Table
plain rs = record { prod0 = none; k = 0; rows = rs }

merge_none : (mode : Mode) → merge mode none none ≡ none
unfolding merge or_else
merge_none Archive = refl
merge_none Intake = refl

-- no row taken yet
pub matching_none : (mode : Mode) (rs : List Row) → Tree rs → Matching mode (word (plain rs)) none []
    (so_far none 0 rs [])
unfolding begun
matching_none mode rs tr = subst (λ (p : Option ℕ). Matching mode (word (plain rs)) none [] (so_far p 0 rs []))
    (merge_none mode) (matching_start mode (plain rs) tr none 0 (λ p q e f. absurd (never e)))

-- ---- the map of matches
matched_cons : (ms : List (ℕ × ℕ)) (x v s : ℕ) → matched ((x, v) ∷ ms) s ≡ cond (eqb x s) v (matched ms s)
unfolding matched
matched_cons ms x v s = refl

matched_here : (ms : List (ℕ × ℕ)) (x v : ℕ) → matched ((x, v) ∷ ms) x ≡ v
matched_here ms x v = matched_cons ms x v x ∙ rw (eq-eqb x x refl)

matched_other : (ms : List (ℕ × ℕ)) (x v s : ℕ) → (x ≡ s → ⊥) → matched ((x, v) ∷ ms) s ≡ matched ms s
matched_other ms x v s n = matched_cons ms x v s ∙ rw (ne_eqb x s n)

matched_none : (s : ℕ) → matched [] s ≡ 0
unfolding matched
matched_none s = refl

matched_small : (ms : List (ℕ × ℕ)) (x v : ℕ) → v ≤ 1023 → ((s : ℕ) → matched ms s ≤ 1023)
    → (s : ℕ) → matched ((x, v) ∷ ms) s ≤ 1023
matched_small ms x v h k s = rw (matched_cons ms x v s) (go (eqb x s))
  where
    go : (c : Bool) → cond c v (matched ms s) ≤ 1023
    go true = h
    go false = k s

-- the rows of a tree
pub tree_of : {ns : List ℤ} → Treed ns → Tree (rows_in ns)
tree_of {ns} t = passes_tree (bare ns) t.checked

-- ---- from place i on
pub record Ongoing (mode : Mode) (xs : List Row) (b : List ℤ) (g : Growing) (map : List ℕ) (i : ℕ) : Type 0 where
  pub within : i ≤ length b / 4
  pub matches : List (ℕ × ℕ)
  pub done : List Row
  pub order : Ordered done (rest b i)
  pub matching : Matching mode (word (plain xs)) none done (so_far none 0 (rows_of g) matches)
  pub maps : Holds (matched matches) map
  pub small : (s : ℕ) → matched matches s ≤ 1023
  pub left : (p : Option ℕ) (k : ℕ)
      → all_rows mode xs (rows_in b) p k ≡ take_rows mode (so_far p k (rows_of g) matches) (rest b i)

pub begins : (mode : Mode) (b : List ℤ) (g : Growing) (map : List ℕ) → Tree (rows_of g) → Treed b → Clear map
    → Ongoing mode (rows_of g) b g map 0
begins mode b g map tr t m = record {
  within = omega arith;
  matches = [];
  done = [];
  order = ordered (rows_in b) (tree_of t);
  matching = matching_none mode (rows_of g) tr;
  maps = holds_as matched_none m;
  small = λ s. omega (arith, matched_none s);
  left = λ p k. refl;
}

module _ (mode : Mode) (xs : List Row) (b : List ℤ) (g : Growing) (map : List ℕ) (i : ℕ)
    (o : Ongoing mode xs b g map i)
  where
    pub ends : length b / 4 ≤ i → Unites mode xs (rows_in b) g
    unfolding take_rows
    ends h = record {
      matches = o.matches;
      is = λ p k. o.left p k
          ∙ ap (take_rows mode (so_far p k (rows_of g) o.matches)) (rest_end b i (omega arith));
    }

    module _ (t : Treed b) (h : i < length b / 4) where
      abbrev r : Row
      r = row_at b i

      pub row_fit : Fit (row_at b i)
      row_fit = fit_at t.passed i h

      pub from_is : get_or map (row_at b i).from 0 ≡ matched o.matches (row_at b i).from
      from_is = o.maps.held (row_at b i).from (omega (arith, row_fit.from))

      -- row i, as its numbers were read
      pub row_read : {f u : ℕ} {q : Option ℕ} → f ≡ (row_at b i).from → u ≡ (row_at b i).terminal
          → q ≡ (row_at b i).production
          → taking mode (rows_of g) (get_or map f 0) u q (find (rows_of g) (get_or map f 0) u)
          ≡ one_row mode (rows_of g) o.matches (row_at b i)
      row_read x y z =
          as_one_row mode (rows_of g) o.matches r _ _ _ (ap (λ (k : ℕ). get_or map k 0) x ∙ from_is) y z

      cut : rest b i ≡ r ∷ rest b (i + 1)
      cut = rest_cons b i (omega arith)

      here : (p : Option ℕ) (k : ℕ)
          → all_rows mode xs (rows_in b) p k
          ≡ take_rows mode (so_far p k (rows_of g) o.matches) (r ∷ rest b (i + 1))
      here p k = o.left p k ∙ ap (take_rows mode (so_far p k (rows_of g) o.matches)) cut

      first : Next o.done r × Ordered (o.done ++ (r ∷ [])) (rest b (i + 1))
      first = first_row (subst (Ordered o.done) cut o.order)

      clashes : (f : Refusal) → one_row mode (rows_of g) o.matches r ≡ refuse (number f) (detail f)
          → Clashes mode xs (rows_in b) f
      clashes f e = record {
        is = λ p k. here p k
            ∙ step_refused mode (rows_of g) o.matches o.matching.tree r (number f) (detail f) e p k (rest b (i + 1));
      }

      overflows : Over (one_row mode (rows_of g) o.matches r) → Overflows mode xs (rows_in b)
      overflows v = record {
        is = λ p k u e. many_stay mode 1024 (after p k o.matches r v.standing) u (rest b (i + 1))
            (omega (arith, v.over))
            (sym (here p k
            ∙ step_taken mode (rows_of g) o.matches o.matching.tree r v.standing v.is p k
            (rest b (i + 1))) ∙ e);
      }

      pub halts : (f : Refusal) → Stops (one_row mode (rows_of g) o.matches r) f → Halts mode xs (rows_in b) f
      halts f (refused e) = clashed (clashes f e)
      halts f (full e v) = filled e (overflows v)

      pub goes_on : (new : Growing) (s : ℕ) → Stands new s (one_row mode (rows_of g) o.matches r)
          → Ongoing mode xs b new (set map r.to s) (i + 1)
      goes_on new s v =
          let w : Standing = record { rows = rows_of new; state = s } in
          record {
            within = omega arith;
            matches = (r.to, s) ∷ o.matches;
            done = o.done ++ (r ∷ []);
            order = first.1;
            matching = match_on mode (word (plain xs)) none none 0 o.done (rows_of g) o.matches r w o.matching
                first.0 v.is;
            maps = holds_set r.to s o.maps (omega (arith, row_fit.to)) (matched_here o.matches r.to s)
                (matched_other o.matches r.to s);
            small = matched_small o.matches r.to s v.small o.small;
            left = λ p k. here p k
                ∙ step_taken mode (rows_of g) o.matches o.matching.tree r w v.is p k (rest b (i + 1));
          }
