-- Two trees united, in either mode: a tree that says what the two say together; refused by 8 exactly where both claim
-- a string under different productions, with these, else by 14 for too many states. Assumes nothing.
use mathlib.Core.Path.{◌≡◌, refl, sym, ◌∙◌, ap, subst}
use mathlib.Core.Bool.{Bool, true, false, cond}
use mathlib.Core.Option.{Option, none, some}
use mathlib.Core.List.{List, [], ◌∷◌, ◌++◌, append-nil}
use Prim.Native.Nat.{ℕ, suc, ◌≤◌, ◌<◌}
use lib.ListN.{length}
use lib.Seq.{append_snoc}
use lib.Dec.{ltb}
use borrow.Author.Tests.{ltb-true, ltb-false}
use Rattle.laws.proofs.Tests.{never}
use Rattle.laws.proofs.Find.{find_nil, find_left}
use Rattle.paper.specs.declared.Mode.{Mode}
use Rattle.paper.specs.Rows.{Row, Table, find}
use Rattle.paper.specs.Answers.{Ruling, accept, refuse, then, Made}
use Rattle.paper.specs.Build.{give, within}
use Rattle.paper.specs.Unite.{taken, root, united_k, matched, United, take_row, take_rows, united}
use Rattle.trees.specs.Reach.{Seat, Finder, seat_of, onward, Word, said}
use Rattle.trees.specs.Views.{merge, join, seen}
use Rattle.trees.specs.Unions.{as_seen, Agreed}
use Rattle.trees.proofs.Paths.{path, word, onward_some, onward_none, path_left}
use Rattle.trees.proofs.Grown.{grown_here}
use Rattle.trees.proofs.Tree.{Tree}
use Rattle.trees.proofs.Words.{join_none, join_off}
use Rattle.trees.proofs.Order.{Next, Ordered, end, next, ordered}
use Rattle.trees.proofs.Took.{lead, took_new, took_old}
use Rattle.trees.proofs.Matching.{Matching, start_of, grown_D, matching_step}
use Rattle.trees.proofs.Kept.{Keeps, kept, off, keeps_k}
use Rattle.trees.proofs.Taken.{Met, met, unmet, taken_met, root_met}

-- Taking rows comes to a union, or to a clash that the two tables have.
pub data Outcome (mode : Mode) (a : List ℕ → Word) (pB : Option ℕ) (D : List Row) : Ruling United → Type 0 where
  fine : {u : United} → Matching mode a pB D u → Outcome mode a pB D (accept u)
  clashed : {p q : ℕ} (v : List ℕ) → a v ≡ some (some p) → said (path pB (find D) v) ≡ some (some q) →
      (p ≡ q → ⊥) → Outcome mode a pB D (refuse 8 (p ∷ q ∷ []))

-- ---- one row
module _ (mode : Mode) (a : List ℕ → Word) (pB : Option ℕ) (D : List Row) (u : United)
    (i : Matching mode a pB D u) (r : Row) (nx : Next D r)
    (w : List ℕ) (y : Seat) (at : path pB (find D) w ≡ some y) (is : y.state ≡ r.from)
    (x : Seat) (e₁ : lead u.table w ≡ some x) (e₂ : x.state ≡ matched u.matches r.from) where
  added : find u.table.rows x.state r.terminal ≡ none →
      Outcome mode a pB (D ++ (r ∷ [])) (take_row mode u r none)
  unfolding take_row word path said
  added e =
      let v : join mode (a (r.terminal ∷ w)) (said (path pB (find D) (r.terminal ∷ w))) ≡ none =
      sym (i.words (r.terminal ∷ w))
      ∙ ap said (onward_none (find u.table.rows) (lead u.table w) r.terminal x e₁ e) in
      let blank = join_off mode (a (r.terminal ∷ w)) (said (path pB (find D) (r.terminal ∷ w))) v in
      rw (← e₂) (fine (matching_step mode a pB D u i r nx w y at is _ _
      (took_new mode u.table w x r.terminal r.production i.tree e₁ e)
      (λ p q k l. absurd (never (sym blank ∙ k)))))

  matched_row : (x' : Row) → find u.table.rows x.state r.terminal ≡ some x' →
      Outcome mode a pB (D ++ (r ∷ [])) (take_row mode u r (some x'))
  unfolding take_row word path said
  matched_row x' e = go (taken mode x'.production r.production) (taken_met mode x'.production r.production)
    where
      new : List ℕ
      new = r.terminal ∷ w

      -- the first table's own word
      own : a new ≡ some x'.production
      own =
          let n : path pB (find D) new ≡ none =
          onward_none (find D) (path pB (find D) w) r.terminal y at (rw is nx.new) in
          sym (join_none mode (a new)) ∙ ap (λ (o : Option Seat). join mode (a new) (said o)) (sym n)
          ∙ sym (i.words new)
          ∙ ap said (onward_some (find u.table.rows) (lead u.table w) r.terminal x e₁ x' e)

      there : said (path pB (find (D ++ (r ∷ []))) new) ≡ some r.production
      there = ap said (grown_here pB (find D) (find (D ++ (r ∷ []))) w y r.terminal r
          (grown_D mode a pB D u i r nx w y at is))

      go : (g : Ruling (Option ℕ)) → Met mode x'.production r.production g →
          Outcome mode a pB (D ++ (r ∷ [])) (then g (λ q. accept (record {
            table = give x'.to q u.table;
            matches = (r.to, x'.to) ∷ u.matches;
          })))
      go g (met h) = fine (matching_step mode a pB D u i r nx w y at is _ _
          (took_old mode u.table w x r.terminal r.production i.tree e₁ x' e)
          (λ p q k l. h p q (cc (own, k)) l))
      go g (unmet k l n) = clashed new (own ∙ ap some k) (there ∙ ap some l) n

  pub row_step : (o : Option Row) → find u.table.rows x.state r.terminal ≡ o →
      Outcome mode a pB (D ++ (r ∷ [])) (take_row mode u r o)
  row_step none e = added e
  row_step (some x') e = matched_row x' e

-- ---- all rows
said_left : (p : Option ℕ) (f f' : Finder) → ((s t : ℕ) (r : Row) → f s t ≡ some r → f' s t ≡ some r) →
    (v : List ℕ) (q : Option ℕ) → said (path p f v) ≡ some q → said (path p f' v) ≡ some q
unfolding said
said_left p f f' h v q e = go (path p f v) refl e
  where
    go : (o : Option Seat) → path p f v ≡ o → said o ≡ some q → said (path p f' v) ≡ some q
    go none k l = absurd (never l)
    go (some x) k l = ap said (path_left p f f' h v x k) ∙ l

module _ (mode : Mode) (a : List ℕ → Word) (pB : Option ℕ) (B : List Row) where
  go_on : (D rs : List Row) → B ≡ D ++ rs → (g : Ruling United) → Outcome mode a pB D g →
      ((u : United) → Matching mode a pB D u → Outcome mode a pB B (take_rows mode u rs)) →
      Outcome mode a pB B (then g (λ v. take_rows mode v rs))
  go_on D rs e g (fine {u} i) k = k u i
  go_on D rs e g (clashed v e₁ e₂ n) k =
      clashed v e₁ (said_left pB (find D) (find B) (λ s t r h. rw e (find_left D rs s t r h)) v _ e₂) n

  pub took_rows : (rs D : List Row) (u : United) → Ordered D rs → B ≡ D ++ rs → Matching mode a pB D u →
      Outcome mode a pB B (take_rows mode u rs)
  unfolding take_rows
  took_rows [] D u end e i = fine (subst (λ (L : List Row). Matching mode a pB L u) (sym (e ∙ append-nil D)) i)
  took_rows (r ∷ rs) D u (next nx or) e i =
      let e' = e ∙ sym (append_snoc D r rs) in
      let (w, y, at, is) = start_of mode a pB D u i r nx in
      let (x, e₁, e₂) = i.match w y at in
      let e₃ : x.state ≡ matched u.matches r.from = e₂ ∙ ap (matched u.matches) is in
      let step = row_step mode a pB D u i r nx w y at is x e₁ e₃
      (find u.table.rows (matched u.matches r.from) r.terminal)
      (ap (λ (s : ℕ). find u.table.rows s r.terminal) e₃) in
      go_on (D ++ (r ∷ [])) rs e' _ step (λ v j. took_rows rs (D ++ (r ∷ [])) v or e' j)

-- ---- no row taken yet
path_root : (p p' : Option ℕ) (f : Finder) (w : List ℕ) (t : ℕ) → path p f (t ∷ w) ≡ path p' f (t ∷ w)
unfolding path onward
path_root p p' f [] t = refl
path_root p p' f (u ∷ w) t = ap (λ (o : Option Seat). onward f o t) (path_root p p' f w u)

path_nil : (p : Option ℕ) (w : List ℕ) (t : ℕ) → path p (find []) (t ∷ w) ≡ none
unfolding path onward find seat_of
path_nil p [] t = refl
path_nil p (u ∷ w) t = ap (λ (o : Option Seat). onward (find []) o t) (path_nil p w u)

module _ (mode : Mode) (A : Table) (tr : Tree A.rows) (pB : Option ℕ) (k : ℕ)
    (h : (p q : ℕ) → A.prod0 ≡ some p → pB ≡ some q → p ≡ q) where
  unfoldable pub begun : United
  begun = record {
    table = record { prod0 = merge mode A.prod0 pB; k = k; rows = A.rows };
    matches = [];
  }

  pub matching_start : Matching mode (word A) pB [] begun
  unfolding begun word said path join matched
  matching_start = record {
    tree = tr;
    branching = record {
      up = λ s t r e. absurd (find_nil s t r e);
      one = λ s t s' t' r r' e. absurd (find_nil s t r e);
    };
    led = λ s t r e. absurd (find_nil s t r e);
    match = match;
    words = words;
    agree = agree;
  }
    where
      p : Option ℕ
      p = merge mode A.prod0 pB

      words : (v : List ℕ) → said (path p (find A.rows) v) ≡ join mode (word A v) (said (path pB (find []) v))
      words [] = refl
      words (t ∷ v) = rw (path_nil pB v t, join_none) (ap said (path_root p A.prod0 (find A.rows) v t))

      match : (v : List ℕ) (y : Seat) → path pB (find []) v ≡ some y →
          (x : Seat) × (path p (find A.rows) v ≡ some x) × (x.state ≡ matched [] y.state)
      match [] y e = (record { state = 0; production = p }, refl, refl)
      match (t ∷ v) y e = absurd (never (sym (path_nil pB v t) ∙ e))

      agree : (v : List ℕ) (p q : ℕ) → word A v ≡ some (some p) → said (path pB (find []) v) ≡ some (some q) → p ≡ q
      agree [] p q e₁ e₂ = h p q (cc) (cc)
      agree (t ∷ v) p q e₁ e₂ = absurd (never (sym (ap said (path_nil pB v t)) ∙ e₂))

-- ---- unite
-- T says what A and B say together, and they claim no string under different productions.
pub record Joined (mode : Mode) (A B T : Table) : Type 0 where
  pub tree : Tree T.rows
  pub words : (v : List ℕ) → word T v ≡ join mode (word A v) (word (as_seen mode A B) v)
  pub agree : Agreed (word A) (word (as_seen mode A B))
  pub longer : T.k ≡ united_k mode A.k B.k

pub data Ends (mode : Mode) (A B : Table) : Ruling Made → Type 0 where
  joined : {T : Table} → Joined mode A B T → suc (length T.rows) ≤ 1024 →
      Ends mode A B (accept (record { table = T; states = suc (length T.rows) }))
  full : {T : Table} → Joined mode A B T → 1024 < suc (length T.rows) → Ends mode A B (refuse 14 [])
  at_odds : {p q : ℕ} (v : List ℕ) → word A v ≡ some (some p) → word (as_seen mode A B) v ≡ some (some q) →
      (p ≡ q → ⊥) → Ends mode A B (refuse 8 (p ∷ q ∷ []))

pub united_good : (mode : Mode) (A B : Table) → Tree A.rows → Tree B.rows → Ends mode A B (united mode A B)
unfolding united within word path said begun
united_good mode A B tr trB = go (root mode A.prod0 B.prod0) (root_met mode A.prod0 B.prod0)
  where
    pB : Option ℕ
    pB = seen mode A.prod0 B.prod0

    k : ℕ
    k = united_k mode A.k B.k

    size : (T : Table) → Joined mode A B T → Ends mode A B (within T)
    size T j = sized (ltb 1024 (suc (length T.rows))) refl
      where
        sized : (b : Bool) → ltb 1024 (suc (length T.rows)) ≡ b → Ends mode A B
            (cond b (refuse 14 []) (accept (record { table = T; states = suc (length T.rows) })))
        sized true e = full j (ltb-true 1024 (suc (length T.rows)) e)
        sized false e = joined j (ltb-false 1024 (suc (length T.rows)) e)

    rest : {g : Ruling United} → Outcome mode (word A) pB B.rows g → Keeps (λ t. t.k ≡ k) g →
        Ends mode A B (then g (λ u. within u.table))
    rest (fine {u} i) (kept l) =
        size u.table (record { tree = i.tree; words = i.words; agree = i.agree; longer = l })
    rest (clashed v e₁ e₂ n) off = at_odds v e₁ e₂ n

    go : (g : Ruling (Option ℕ)) → Met mode A.prod0 pB g → Ends mode A B (then g (λ p.
        then (take_rows mode (record { table = record { prod0 = p; k = k; rows = A.rows }; matches = [] }) B.rows)
        (λ u. within u.table)))
    go g (met h) =
        let u = begun mode A tr pB k h in
        rest (took_rows mode (word A) pB B.rows B.rows [] u (ordered B.rows trB) refl
        (matching_start mode A tr pB k h)) (keeps_k mode k B.rows u refl)
    go g (unmet e₁ e₂ n) = at_odds [] (ap some e₁) (ap some e₂) n
