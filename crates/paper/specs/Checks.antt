-- Document 01's checks 1 to 7, each true when it refuses, and their order.
use Rattle.std.specs.Prelude.{ℕ, zero, suc, ◌%◌, Bool, true, false, not, ◌&&◌, ◌||◌, cond, List, [], ◌∷◌, ◌++◌, length, ℤ, eqb, ltb, leb}
use Rattle.std.proofs.Math.Option.{Option, none, some}
use Rattle.paper.specs.Rows.{Row, Table}
use Rattle.paper.specs.Answers.{Ruling, refuse}

-- The first check that refuses, by its number; else what follows.
abbrev pub first : {A : Type 0} → List (Bool × ℕ) → Ruling A → Ruling A
first [] r = r
first (c ∷ cs) r = cond c.0 (refuse c.1 []) (first cs r)

-- All of a list.
unfoldable pub every : {A : Type 0} → (A → Bool) → List A → Bool
every f [] = true
every f (x ∷ xs) = f x && every f xs

-- At least one of a list.
unfoldable pub any : {A : Type 0} → (A → Bool) → List A → Bool
any f [] = false
any f (x ∷ xs) = f x || any f xs

-- 1 LENGTH: a row slice that is not a multiple of 4 or is over 16,384 numbers;
unfoldable pub row_slice : List ℤ → Bool
row_slice ns = not (eqb (length ns % 4) 0) || ltb 16384 (length ns)

-- an output slice for rows under 16,384 numbers.
unfoldable pub little_room : ℕ → Bool
little_room n = ltb n 16384

-- 2 RANGE: a number outside its bounds. A production is 0 to 65,535 or, in tables, -1;
unfoldable pub production_fits : Option ℕ → Bool
production_fits none = true
production_fits (some q) = leb q 65535

-- a state is 0 to 1,023 and a terminal 0 to 65,535;
unfoldable pub row_fits : Row → Bool
row_fits r =
    (leb r.from 1023 && leb r.terminal 65535) && (leb r.to 1023 && production_fits r.production)

-- a table's k is 0 to 16.
unfoldable pub range : Table → Bool
range t = not ((production_fits t.prod0 && leb t.k 16) && every row_fits t.rows)

-- 3 ORDER: rows not strictly rising by (from, terminal). A row before another:
unfoldable pub before : Row → Row → Bool
before a b = ltb a.from b.from || (eqb a.from b.from && ltb a.terminal b.terminal)

-- Each row stands before the next;
unfoldable pub rising : List Row → Bool
rising [] = true
rising (a ∷ []) = true
rising (a ∷ b ∷ rs) = before a b && rising (b ∷ rs)

-- 3 is given where they do not.
unfoldable pub order : Table → Bool
order t = not (rising t.rows)

-- 4 SHAPE: a row with to ≤ from.
unfoldable pub shape : Table → Bool
shape t = any (λ r. leb r.to r.from) t.rows

-- 5 LOOSE: a from that is not 0 and is no row's to.
unfoldable pub loose : Table → Bool
loose t = any (λ r. not (eqb r.from 0) && not (any (λ x. eqb x.to r.from) t.rows)) t.rows

-- 6 SPLIT: one to-state with two productions. Equal productions:
unfoldable pub same_production : Option ℕ → Option ℕ → Bool
same_production none none = true
same_production none (some q) = false
same_production (some p) none = false
same_production (some p) (some q) = eqb p q

-- Two rows into one state, with two productions.
unfoldable pub split : Table → Bool
split t = any (λ r. any (λ x. eqb x.to r.to && not (same_production x.production r.production)) t.rows) t.rows

-- 7 TREE: ruled, but the to-numbers are not 1 to the row count, each once. How many rows lead into n:
unfoldable pub rows_into : List Row → ℕ → ℕ
rows_into [] n = 0
rows_into (r ∷ rs) n = cond (eqb r.to n) (suc (rows_into rs n)) (rows_into rs n)

-- Each number from 1 to n is the to of one row;
unfoldable pub each_once : List Row → ℕ → Bool
each_once rs zero = true
each_once rs (suc n) = eqb (rows_into rs (suc n)) 1 && each_once rs n

-- 7 is given where that fails up to the row count.
unfoldable pub no_tree : Table → Bool
no_tree t = not (each_once t.rows (length t.rows))

-- 2 and 3, for predict, explain and text.
abbrev pub plain : Table → List (Bool × ℕ)
plain t = (range t, 2) ∷ (order t, 3) ∷ []

-- 2 to 6, for shrink: a table that passes them is ruled.
abbrev pub ruled : Table → List (Bool × ℕ)
ruled t = (range t, 2) ∷ (order t, 3) ∷ (shape t, 4) ∷ (loose t, 5) ∷ (split t, 6) ∷ []

-- 2 to 7, for unite: a table that passes them is a tree.
abbrev pub tree : Table → List (Bool × ℕ)
tree t = ruled t ++ ((no_tree t, 7) ∷ [])

-- 14 FULL: the result would have over 1,024 states.
abbrev pub full : ℕ → List (Bool × ℕ)
full n = (ltb 1024 n, 14) ∷ []
