-- The second's rows looked up in the first from a place on: what the map holds, and what is left.
-- Assumes nothing.
use mathlib.Core.Path.{◌≡◌, refl, ap, sym, ◌∙◌, subst}
use mathlib.Core.Option.{Option, none, some}
use mathlib.Core.List.{List, [], ◌∷◌, ◌++◌, List-discrete}
use Prim.Native.Nat.{ℕ, ◌+◌, ◌/◌, ◌<◌, ◌≤◌}
use native.Mathlib.Omega.{arith}
use native.Mathlib.Decide.{ℕ_discrete}
use lib.ListN.{length, get_or, set, length-set}
use lib.Seq.{get_or-set_same, get_or-set_other}
use lib.IntN.{ℤ}
use Rattle.laws.proofs.Tests.{never}
use Rattle.std.specs.Prelude.{Result}
use Rattle.std.specs.declared.option.Option as rust
use Rattle.paper.specs.declared.Mode.{Mode}
use Rattle.paper.specs.declared.State.{State}
use Rattle.paper.specs.declared.Refusal.{Refusal}
use Rattle.paper.specs.Rows.{Row, rows_in, find}
use Rattle.paper.specs.Answers.{Ruling, accept, refuse, number, detail}
use Rattle.paper.specs.Unite.{matched, take_rows}
use Rattle.rows.specs.Places.{row_at, rest}
use Rattle.rows.proofs.Rest.{rest_cons, rest_end, length_rows}
use Rattle.rows.proofs.Fits.{Fit}
use Rattle.rows.proofs.Passing.{fit_at}
use Rattle.counts.specs.Arrays.{Clear}
use Rattle.trees.specs.Reach.{Seat, sit, said, seat_of, onward}
use Rattle.trees.proofs.Tree.{Tree}
use Rattle.trees.proofs.Paths.{path, word, onward_inv}
use Rattle.trees.proofs.Grown.{Grown, grown_here, grown_other}
use Rattle.trees.proofs.Order.{Next, Ordered, ordered}
use Rattle.trees.proofs.Took.{lead}
use Rattle.trees.proofs.Matching.{Matching, start_of, grown_D}
use Rattle.unite_taking.specs.Taking.{so_far, all_rows, Clashes, Accepts, Treed}
use Rattle.unite_scan.specs.Looking.{mark, unmark, seek, looked, Looks}
use Rattle.unite_taking.proofs.Steps.{step_refused, step_taken, match_on, first_row}
use Rattle.unite_taking.proofs.Ongoing.{plain, matching_none, tree_of}
use Rattle.unite_scan.proofs.Looked.{
  state_at,
  lead_on,
  looked_match,
  own_none,
  own_some,
  Alike,
  alike,
  alike_refused,
  alike_taken,
}

-- the map holds for each state reached by the rows D its match in xs
abbrev pub Marks : List Row → List Row → List ℕ → Type 0
Marks xs D map = (v : List ℕ) (y : Seat) → path none (find D) v ≡ some y
    → get_or map y.state 0 ≡ mark (state_at (lead (plain xs) v))

pub record Scanning (mode : Mode) (xs : List Row) (b : List ℤ) (map : List ℕ) (i : ℕ) : Type 0 where
  pub within : i ≤ length b / 4
  pub rows : List Row
  pub matches : List (ℕ × ℕ)
  pub done : List Row
  pub order : Ordered done (rest b i)
  pub matching : Matching mode (word (plain xs)) none done (so_far none 0 rows matches)
  pub sized : length map ≡ 1024
  pub marks : Marks xs done map
  pub left : (p : Option ℕ) (k : ℕ)
      → all_rows mode xs (rows_in b) p k ≡ take_rows mode (so_far p k rows matches) (rest b i)

-- no row reaches any state but 0
marks_none : (xs : List Row) (map : List ℕ) → Clear map → Marks xs [] map
unfolding path onward find seat_of
marks_none xs map m [] y e = let z : y.state ≡ 0 = cc in ap (λ (s : ℕ). get_or map s 0) z ∙ m.held 0 (omega arith)
marks_none xs map m (t ∷ v) y e = absurd (never (sym (go (path none (find []) v)) ∙ e))
  where
    go : (o : Option Seat) → onward (find []) o t ≡ none
    go none = refl
    go (some z) = refl

pub scan_begins : (mode : Mode) (xs : List Row) (b : List ℤ) (map : List ℕ) → Tree xs → Treed b → Clear map
    → Scanning mode xs b map 0
scan_begins mode xs b map tr t m = record {
  within = omega arith;
  rows = xs;
  matches = [];
  done = [];
  order = ordered (rows_in b) (tree_of t);
  matching = matching_none mode xs tr;
  sized = m.sized;
  marks = marks_none xs map m;
  left = λ p k. refl;
}

-- a state that r leads to is reached by no row before it
not_there : (D : List Row) (r : Row) → Next D r → (v : List ℕ) (y : Seat) → path none (find D) v ≡ some y
    → y.state ≡ r.to → ⊥
unfolding path
not_there D r nx [] y e k = let z : y.state ≡ 0 = cc in omega (arith, nx.rise, k)
not_there D r nx (t ∷ v) y e k =
    let (z, x, e₁, e₂, e₃) = onward_inv (find D) (path none (find D) v) t y e in
    nx.fresh z.state t x e₂ (cc)

module _ (mode : Mode) (xs : List Row) (b : List ℤ) (map : List ℕ) (i : ℕ) (o : Scanning mode xs b map i) where
  pub scan_ends : length b / 4 ≤ i → Accepts mode xs (rows_in b)
  unfolding take_rows
  scan_ends h = record {
    is = λ p k. (
      so_far p k o.rows o.matches,
      o.left p k ∙ ap (take_rows mode (so_far p k o.rows o.matches)) (rest_end b i (omega arith)),
    );
  }

  module _ (tr : Tree xs) (few : length xs ≤ 1023) (t : Treed b) (h : i < length b / 4) where
    abbrev r : Row
    r = row_at b i

    pub scan_fit : Fit (row_at b i)
    scan_fit = fit_at t.passed i h

    here : (p : Option ℕ) (k : ℕ)
        → all_rows mode xs (rows_in b) p k ≡ take_rows mode (so_far p k o.rows o.matches) (r ∷ rest b (i + 1))
    here p k = o.left p k ∙ ap (take_rows mode (so_far p k o.rows o.matches)) (rest_cons b i (omega arith))

    first : Next o.done r × Ordered (o.done ++ (r ∷ [])) (rest b (i + 1))
    first = first_row (subst (Ordered o.done) (rest_cons b i (omega arith)) o.order)

    -- the path to the row's from
    from_path : (w : List ℕ) × (y : Seat) × (path none (find o.done) w ≡ some y) × (y.state ≡ r.from)
    from_path = start_of mode (word (plain xs)) none o.done (so_far none 0 o.rows o.matches) o.matching r
        first.0

    abbrev W : List ℕ
    W = from_path.0

    from_mark : get_or map r.from 0 ≡ mark (state_at (lead (plain xs) W))
    from_mark = ap (λ (s : ℕ). get_or map s 0) (sym from_path.3) ∙ o.marks W from_path.1 from_path.2

    abbrev G : Option Row
    G = seek xs (unmark (get_or map r.from 0)) r.terminal

    leads : lead (plain xs) (r.terminal ∷ W) ≡ seat_of G
    leads = lead_on xs W r.terminal tr few ∙ ap (λ (m : ℕ). seat_of (seek xs (unmark m) r.terminal)) (sym from_mark)

    -- the first and the union so far have a row with one production, or neither has one
    one_production : Alike G (find o.rows (matched o.matches r.from) r.terminal)
    unfolding word
    one_production =
        let (w, y, at, is) = from_path in
        let (x, e₁, e₂) = o.matching.match w y at in
        let e₃ : x.state ≡ matched o.matches r.from = e₂ ∙ ap (matched o.matches) is in
        alike (word (plain xs) (r.terminal ∷ w)) (find o.rows (matched o.matches r.from) r.terminal) G
        (own_none mode (word (plain xs)) none o.done o.rows o.matches o.matching r first.0 w y at is
        x e₁ e₃)
        (own_some mode (word (plain xs)) none o.done o.rows o.matches o.matching r first.0 w y at is
        x e₁ e₃)
        (ap said leads)

    pub scan_clashes : (f : Refusal) → looked mode r.production G ≡ refuse (number f) (detail f)
        → Clashes mode xs (rows_in b) f
    scan_clashes f e = record {
      is = λ p k. here p k
          ∙ step_refused mode o.rows o.matches o.matching.tree r (number f) (detail f)
          (alike_refused mode o.rows (matched o.matches r.from) r.terminal r.production G _
          one_production (number f) (detail f) e)
          p k (rest b (i + 1));
    }

    -- the row's own match is known too
    marks_on : (u : Option ℕ) → looked mode r.production G ≡ accept u
        → Marks xs (o.done ++ (r ∷ [])) (set map r.to (mark u))
    marks_on u e v y d = go (List-discrete ℕ_discrete v (r.terminal ∷ W))
      where
        grown : Grown none (find o.done) (find (o.done ++ (r ∷ []))) W from_path.1 r.terminal r
        grown = grown_D mode (word (plain xs)) none o.done (so_far none 0 o.rows o.matches) o.matching r
            first.0 W from_path.1 from_path.2 from_path.3

        go : Dec (v ≡ r.terminal ∷ W) → get_or (set map r.to (mark u)) y.state 0 ≡ mark (state_at (lead (plain xs) v))
        go (yes k) =
            let s : path none (find (o.done ++ (r ∷ []))) v ≡ some (sit r) =
            ap (path none (find (o.done ++ (r ∷ [])))) k
            ∙ grown_here none (find o.done) (find (o.done ++ (r ∷ []))) W from_path.1 r.terminal r
            grown in
            let z : y.state ≡ r.to = cc in
            ap (λ (x : ℕ). get_or (set map r.to (mark u)) x 0) z
            ∙ get_or-set_same map r.to (mark u) 0 (omega (arith, scan_fit.to, o.sized))
            ∙ ap mark (looked_match mode r.production G u e) ∙ ap (λ (x : Option Seat). mark (state_at x)) (sym leads)
            ∙ ap (λ (w : List ℕ). mark (state_at (lead (plain xs) w))) (sym k)
        go (no n) =
            let s : path none (find o.done) v ≡ some y =
            sym (grown_other none (find o.done) (find (o.done ++ (r ∷ []))) W from_path.1 r.terminal r
            grown v n) ∙ d in
            get_or-set_other map r.to y.state (mark u) 0 (not_there o.done r first.0 v y s) ∙ o.marks v y s

    pub scan_on : (u : Option ℕ) → looked mode r.production G ≡ accept u
        → Scanning mode xs b (set map r.to (mark u)) (i + 1)
    scan_on u e =
        let (w, d) = alike_taken mode o.rows (matched o.matches r.from) r.terminal r.production G
        (find o.rows (matched o.matches r.from) r.terminal) one_production u e in
        record {
          within = omega arith;
          rows = w.rows;
          matches = (r.to, w.state) ∷ o.matches;
          done = o.done ++ (r ∷ []);
          order = first.1;
          matching = match_on mode (word (plain xs)) none none 0 o.done o.rows o.matches r w o.matching
              first.0 d;
          sized = simp length-set o.sized;
          marks = marks_on u e;
          left = λ p k. here p k ∙ step_taken mode o.rows o.matches o.matching.tree r w d p k
              (rest b (i + 1));
        }

pub few_rows : {ns : List ℤ} → Treed ns → length (rows_in ns) ≤ 1023
few_rows {ns} t = omega (arith, length_rows ns, t.whole)

-- what was looked up, as another says it
pub looks_as : (mode : Mode) (rs : List Row) (v : Result (rust.Option State) Refusal) {m n : Option ℕ} {t u : ℕ}
    {p q : Option ℕ} → m ≡ n → t ≡ u → p ≡ q
    → Looks (looked mode p (seek rs m t)) v → Looks (looked mode q (seek rs n u)) v
looks_as mode rs v a b c k = subst (λ (g : Ruling (Option ℕ)). Looks g v) (λ j. looked mode (c j) (seek rs (a j) (b j))) k
