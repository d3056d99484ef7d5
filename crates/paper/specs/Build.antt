-- Document 01, module 2: build.
use Rattle.std.specs.Prelude.{ℕ, suc, ◌+◌, max, Bool, not, ◌||◌, cond, List, [], ◌∷◌, ◌++◌, map, length, take, drop, ℤ, eqb, ltb, leb}
use Rattle.std.proofs.Math.Option.{Option, none, some}
use Rattle.paper.specs.Rows.{Row, Table, natural, find}
use Rattle.paper.specs.Answers.{Ruling, accept, Made}
use Rattle.paper.specs.Checks.{first, before, little_room, any, full}

-- A row put where it belongs in rising rows.
unfoldable pub insert : Row → List Row → List Row
insert r [] = r ∷ []
insert r (x ∷ xs) = cond (before r x) (r ∷ x ∷ xs) (x ∷ insert r xs)

-- A state gets a production: it stands in every row into the state, or is prod0.
unfoldable pub give : ℕ → Option ℕ → Table → Table
give s q t = record {
  prod0 = cond (eqb s 0) q t.prod0;
  k = t.k;
  rows = map (λ r. record {
    from = r.from;
    terminal = r.terminal;
    to = r.to;
    production = cond (eqb r.to s) q r.production;
  }) t.rows;
}

-- Where a walk stands in the rows it has added to.
pub record Standing : Type 0 where
  pub rows : List Row
  pub state : ℕ

-- From a state by a terminal: along its row, or into a new state with the next number.
-- The states are 0 to the row count, so the next number is one more than the row count.
unfoldable pub enter : List Row → ℕ → ℕ → Option Row → Standing
enter rs s t (some r) = record { rows = rs; state = r.to }
enter rs s t none = record {
  rows = insert (record { from = s; terminal = t; to = suc (length rs); production = none }) rs;
  state = suc (length rs);
}

-- Walk a string, adding states in order of need.
unfoldable pub walk_in : Standing → List ℕ → Standing
walk_in w [] = w
walk_in w (t ∷ ts) = walk_in (enter w.rows w.state t (find w.rows w.state t)) ts

-- One string: walked from state 0; the last state gets the production; k is the longest length.
unfoldable pub add_string : ℕ → Table → List ℕ → Table
add_string q t σ =
    let w = walk_in (record { rows = t.rows; state = 0 }) σ in
    give w.state (some q) (record { prod0 = t.prod0; k = max t.k (length σ); rows = w.rows })

-- Every string, in the order that the caller gives.
unfoldable pub add_strings : ℕ → Table → List (List ℕ) → Table
add_strings q t [] = t
add_strings q t (σ ∷ σs) = add_strings q (add_string q t σ) σs

-- Start with state 0; an empty list makes state 0 accept.
unfoldable pub built : ℕ → List (List ℕ) → Table
built q [] = record { prod0 = some q; k = 0; rows = [] }
built q (σ ∷ σs) = add_strings q (record { prod0 = none; k = 0; rows = [] }) (σ ∷ σs)

-- All tokens of some strings, one after the other.
unfoldable pub joined : List (List ℕ) → List ℕ
joined [] = []
joined (σ ∷ σs) = σ ++ joined σs

-- The first string starts at the slice's head; the others are read from the rest of the token slice.
unfoldable pub strings : List ℕ → List ℕ → List (List ℕ)
strings [] tokens = []
strings (n ∷ ns) tokens = take n tokens ∷ strings ns (drop n tokens)

-- The sum of the lengths, over plain numbers: it does not wrap.
unfoldable pub sum : List ℕ → ℕ
sum [] = 0
sum (n ∷ ns) = n + sum ns

-- 1 LENGTH for build: output too short, over 1,024 strings, lengths that do not sum to the token count.
unfoldable pub build_lengths : List ℕ → List ℕ → ℕ → Bool
build_lengths tokens lengths room =
    little_room room || (ltb 1024 (length lengths) || not (eqb (sum lengths) (length tokens)))

-- 2 RANGE for build: the production is 0 to 65,535, a string's length 0 to 16.
unfoldable pub build_range : ℤ → List ℕ → Bool
build_range p lengths = not (leb (natural p) 65535) || any (λ n. ltb 16 n) lengths

-- A made tree: its states are 0 and one for each row. 14 is the last refusal.
unfoldable pub within : Table → Ruling Made
within t = first (full (suc (length t.rows))) (accept (record { table = t; states = suc (length t.rows) }))

-- Build: production, tokens, string lengths, and the length of the output. Order 1, 2, 14.
unfoldable pub build : ℤ → List ℕ → List ℕ → ℕ → Ruling Made
build p tokens lengths room =
    first ((build_lengths tokens lengths room, 1) ∷ (build_range p lengths, 2) ∷ [])
    (within (built (natural p) (strings lengths tokens)))
