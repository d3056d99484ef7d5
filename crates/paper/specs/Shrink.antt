-- Document 01, module 4: shrink.
use Rattle.std.specs.Prelude.{ℕ, zero, suc, Bool, true, false, ◌&&◌, ◌||◌, cond, List, [], ◌∷◌, ◌++◌, map, length, ℤ, eqb, ltb}
use Rattle.std.proofs.Math.Option.{Option, none, some}
use Rattle.paper.specs.declared.Mode.{Mode}
use Rattle.paper.specs.declared.Mode.TheVariants.{Archive, Intake}
use Rattle.paper.specs.Rows.{Row, Table, table, states}
use Rattle.paper.specs.Answers.{Ruling, accept, Made}
use Rattle.paper.specs.Checks.{first, row_slice, little_room, ruled, same_production}

-- A state with its production and its rows, as (terminal, to).
pub record Node : Type 0 where
  pub state : ℕ
  pub production : Option ℕ
  pub rows : List (ℕ × ℕ)

-- A state's production: that of a row into it; prod0 for 0, which no row of a ruled table leads into.
unfoldable pub production_of : Option ℕ → List Row → ℕ → Option ℕ
production_of prod0 [] s = prod0
production_of prod0 (r ∷ rs) s = cond (eqb r.to s) r.production (production_of prod0 rs s)

-- The rows of a state.
unfoldable pub rows_of : List Row → ℕ → List (ℕ × ℕ)
rows_of [] s = []
rows_of (r ∷ rs) s = cond (eqb r.from s) ((r.terminal, r.to) ∷ rows_of rs s) (rows_of rs s)

-- The states of a table, rising.
unfoldable pub nodes : Table → List Node
nodes t =
    map (λ s. record { state = s; production = production_of t.prod0 t.rows s; rows = rows_of t.rows s })
    (states t.rows)

-- Rows lead to other states.
unfoldable pub redirect : (ℕ → ℕ) → List (ℕ × ℕ) → List (ℕ × ℕ)
redirect f rs = map (λ r. (r.0, f r.1)) rs

-- The same for a state with its rows.
unfoldable pub lead : (ℕ → ℕ) → Node → Node
lead f n = record { state = n.state; production = n.production; rows = redirect f n.rows }

-- ---- merging until none are equal

-- A state's rows rise by terminal, so equal sets of (to, terminal) are equal lists.
unfoldable pub same_rows : List (ℕ × ℕ) → List (ℕ × ℕ) → Bool
same_rows [] [] = true
same_rows [] (y ∷ ys) = false
same_rows (x ∷ xs) [] = false
same_rows (x ∷ xs) (y ∷ ys) = (eqb x.0 y.0 && eqb x.1 y.1) && same_rows xs ys

-- Equal production and equal set.
unfoldable pub equal : Node → Node → Bool
equal x y = same_production x.production y.production && same_rows x.rows y.rows

-- The first state of the list that equals x.
unfoldable pub twin : Node → List Node → Option ℕ
twin x [] = none
twin x (n ∷ ns) = cond (equal x n) (some n.state) (twin x ns)

-- The first two equal states, the lower first.
unfoldable pub twins : List Node → Option (ℕ × ℕ)
twins [] = none
twins (n ∷ ns) = elim (twin n ns) [ some b ↦ some (n.state, b) | none ↦ twins ns ]

-- Two states become one under the lower number: the higher goes, and what led into it leads into the lower.
unfoldable pub merge : ℕ → ℕ → List Node → List Node
merge low high [] = []
merge low high (n ∷ ns) =
    cond (eqb n.state high) (merge low high ns) (lead (λ s. cond (eqb s high) low s) n ∷ merge low high ns)

-- Until none are equal. Each turn takes a state away, so as many turns as states are enough.
unfoldable pub merge_all : ℕ → List Node → List Node
merge_all zero ns = ns
merge_all (suc n) ns = elim (twins ns) [ none ↦ ns | some ab ↦ merge_all n (merge ab.0 ab.1 ns) ]

-- ---- archive first: accepting states of one production become one

-- The state accepts the production q.
unfoldable pub accepts : ℕ → Node → Bool
accepts q n = same_production n.production (some q)

-- It takes the lowest number;
unfoldable pub lowest : ℕ → List Node → ℕ
lowest q [] = 0
lowest q (n ∷ ns) = cond (accepts q n) n.state (lowest q ns)

-- and the rows of the highest member; the others' rows are lost.
unfoldable pub highest_rows : ℕ → List (ℕ × ℕ) → List Node → List (ℕ × ℕ)
highest_rows q rs [] = rs
highest_rows q rs (n ∷ ns) = highest_rows q (cond (accepts q n) n.rows rs) ns

-- The production of a state among some.
unfoldable pub node_production : List Node → ℕ → Option ℕ
node_production [] s = none
node_production (n ∷ ns) s = cond (eqb n.state s) n.production (node_production ns s)

-- The state that a state becomes.
unfoldable pub becomes : List Node → ℕ → ℕ
becomes all s = elim (node_production all s) [ none ↦ s | some q ↦ lowest q all ]

-- One state for each accepting production; the others stay, their rows redirected.
unfoldable pub gather : List Node → List Node → List Node
gather all [] = []
gather all (n ∷ ns) = elim n.production [
  | none ↦ lead (becomes all) n ∷ gather all ns
  | some q ↦ cond (eqb (lowest q all) n.state)
      (record {
        state = n.state;
        production = some q;
        rows = redirect (becomes all) (highest_rows q [] all);
      } ∷ gather all ns)
      (gather all ns)
]

-- In archive, after gathering, no two accepting states have one production: what merges is not accepting.
unfoldable pub gathered : Mode → List Node → List Node
gathered Archive ns = gather ns ns
gathered Intake ns = ns

-- ---- numbers close up in order

-- A state's new number: how many states that stay are lower.
unfoldable pub place : List Node → ℕ → ℕ
place [] s = 0
place (n ∷ ns) s = cond (ltb n.state s) (suc (place ns s)) (place ns s)

-- The rows of the states that stay, reached or not.
unfoldable pub node_rows : List Node → List Node → List Row
node_rows all [] = []
node_rows all (n ∷ ns) =
    map (λ r. record {
      from = place all n.state;
      terminal = r.0;
      to = place all r.1;
      production = node_production all r.1;
    }) n.rows
    ++ node_rows all ns

-- A ruled table shrunk; prod0 and k stay, and every state that stays is counted.
unfoldable pub shrunk : Mode → Table → Made
shrunk mode t =
    let ns = nodes t in
    let ms = merge_all (length ns) (gathered mode ns) in
    record { table = record { prod0 = t.prod0; k = t.k; rows = node_rows ms ms }; states = length ms }

-- 2 to 6.
unfoldable pub shrink_table : Mode → Table → Ruling Made
shrink_table mode t = first (ruled t) (accept (shrunk mode t))

-- Shrink: mode, table, and the length of the output. 1 comes first.
unfoldable pub shrink : Mode → ℤ → ℕ → List ℤ → ℕ → Ruling Made
shrink mode p k ns room =
    first ((row_slice ns || little_room room, 1) ∷ []) (shrink_table mode (table p k ns))
