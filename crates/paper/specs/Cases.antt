-- The worked cases of document 01, in its order: one table. proofs/Starred.antt has the statement over all of it.
use Rattle.std.specs.Prelude.{ℕ, List, [], ◌∷◌, map, length, pos}
use Prim.Native.String.{String}
use Rattle.std.proofs.Math.Option.{Option, none, some}
use Rattle.paper.specs.declared.Mode.{Mode}
use Rattle.paper.specs.declared.Mode.TheVariants.{Archive, Intake}
use Rattle.paper.specs.Words.{bytes}
use Rattle.paper.specs.Rows.{Row, signed, numbers}
use Rattle.paper.specs.Answers.{Ruling, accept, refuse, then, Made, Chosen}
use Rattle.paper.specs.Build.{joined, build}
use Rattle.paper.specs.Unite.{unite}
use Rattle.paper.specs.Shrink.{shrink}
use Rattle.paper.specs.Predict.{predict}
use Rattle.paper.specs.Explain.{Stretch, matched_count, stretch}
use Rattle.paper.specs.Tabrep.{tabrep}
use Rattle.paper.specs.Lists.{Opening, defined}

-- A row as the document writes it; -1 is none.
abbrev pub Four : Type 0
Four = ℕ × ℕ × ℕ × Option ℕ

-- The row of four numbers.
abbrev pub row : Four → Row
row r = record { from = r.0; terminal = r.1; to = r.2; production = r.3 }

-- A table that a case asks for, and how it is made: given, or built, united or shrunk from others.
pub data Asked : Type 0 where
  given : Option ℕ → ℕ → List Four → Asked
  list : ℕ → List (List ℕ) → Asked
  united : Mode → Asked → Asked → Asked
  shrunk : Mode → Asked → Asked

-- The ruling of the last call that makes it; every output has 16,384 numbers.
unfoldable pub make : Asked → Ruling Made
make (given p k rs) = accept (record { table = record { prod0 = p; k = k; rows = map row rs }; states = 0 })
make (list q σs) = build (pos q) (joined σs) (map (λ σ. length σ) σs) 16384
make (united mode a b) = then (make a) (λ x. then (make b) (λ y. unite mode
    (signed x.table.prod0) x.table.k (numbers x.table.rows)
    (signed y.table.prod0) y.table.k (numbers y.table.rows) 16384))
make (shrunk mode a) = then (make a) (λ x. shrink mode
    (signed x.table.prod0) x.table.k (numbers x.table.rows) 16384)

-- A case asks for a table, a prediction, an explanation, what lists define or what `tabrep` prints,
-- and says what it gives.
pub data Case : Type 0 where
  gives : Asked → Ruling Made → Case
  predicts : Mode → Asked → List ℕ → Ruling Chosen → Case
  explains : Asked → List ℕ → Ruling ℕ → Stretch → Case
  defines : List Opening → List ℕ → Ruling ℕ → Case
  prints : String → String → Case

-- What comes of a case.
pub data Outcome : Type 0 where
  making : Ruling Made → Outcome
  prediction : Ruling Chosen → Outcome
  explanation : Ruling ℕ → Ruling Stretch → Outcome
  definition : Ruling ℕ → Outcome
  print : List ℕ → Outcome

-- What the definitions give. The stream's own k is 16.
unfoldable pub run : Case → Outcome
run (gives a g) = making (make a)
run (predicts mode a ts g) = prediction (then (make a) (λ x.
    predict mode (signed x.table.prod0) x.table.k (numbers x.table.rows) 16 ts))
run (explains a ts g s) = explanation
    (then (make a) (λ x. matched_count (signed x.table.prod0) x.table.k (numbers x.table.rows) ts))
    (then (make a) (λ x. accept (stretch (signed x.table.prod0) x.table.k (numbers x.table.rows) ts)))
run (defines ls ts g) = definition (defined ls ts)
run (prints i o) = print (tabrep (bytes i))

-- What the document says.
unfoldable pub said : Case → Outcome
said (gives a g) = making g
said (predicts mode a ts g) = prediction g
said (explains a ts g s) = explanation g (accept s)
said (defines ls ts g) = definition g
said (prints i o) = print (bytes o)

-- A table as a ruling says it: prod0, k, rows, states.
abbrev made : Option ℕ → ℕ → List Four → ℕ → Ruling Made
made p k rs n = accept (record { table = record { prod0 = p; k = k; rows = map row rs }; states = n })

-- A prediction: production, rows entered.
abbrev chosen : ℕ → ℕ → Ruling Chosen
chosen q n = accept (record { production = q; entered = n })

-- A = strings 5; 7 under 1. B = string 5 6 under 2. T is archive B with A.
abbrev A : Asked
A = list 1 ((5 ∷ []) ∷ (7 ∷ []) ∷ [])

-- B of the document.
abbrev B : Asked
B = list 2 ((5 ∷ 6 ∷ []) ∷ [])

-- T of the document.
abbrev T : Asked
T = united Archive B A

-- The same two as lists.
abbrev a_and_b : List Opening
a_and_b =
    record { production = 1; strings = (5 ∷ []) ∷ (7 ∷ []) ∷ [] }
    ∷ record { production = 2; strings = (5 ∷ 6 ∷ []) ∷ [] }
    ∷ []

-- The empty string under a production.
abbrev empty_string : ℕ → Asked
empty_string q = list q ([] ∷ [])

-- String 5 under a production.
abbrev string_5 : ℕ → Asked
string_5 q = list q ((5 ∷ []) ∷ [])

-- prod0 1, (0,3,1,1) (0,5,2,2).
abbrev two_leaves : Asked
two_leaves = given (some 1) 1 ((0, 3, 1, some 1) ∷ (0, 5, 2, some 2) ∷ [])

-- prod0 -1, (0,4,1,7) (0,6,2,-1) (2,4,3,7).
abbrev two_sevens : Asked
two_sevens = given none 2 ((0, 4, 1, some 7) ∷ (0, 6, 2, none) ∷ (2, 4, 3, some 7) ∷ [])

-- prod0 3, k 2, (0,5,1,-1) (1,6,2,4).
abbrev late : Asked
late = given (some 3) 2 ((0, 5, 1, none) ∷ (1, 6, 2, some 4) ∷ [])

-- A string of length 16.
abbrev long : List ℕ
long = 1 ∷ 2 ∷ 3 ∷ 4 ∷ 5 ∷ 6 ∷ 7 ∷ 8 ∷ 9 ∷ 10 ∷ 11 ∷ 12 ∷ 13 ∷ 14 ∷ 15 ∷ 16 ∷ []

-- The table of starred cases, in the order of the document, with some that are not starred.
unfoldable pub starred : List Case
starred =
    -- Empty list under 4: prod0 4, k 0, no rows, 1 state.
    gives (list 4 []) (made (some 4) 0 [] 1)
    -- A: k 1, rows (0,5,1,1) (0,7,2,1).
    ∷ gives A (made none 1 ((0, 5, 1, some 1) ∷ (0, 7, 2, some 1) ∷ []) 3)
    -- Archive A with B: k 1, (0,5,1,-1) (0,7,2,1) (1,6,3,2). Tokens 5 6: 11.
    ∷ gives (united Archive A B) (made none 1 ((0, 5, 1, none) ∷ (0, 7, 2, some 1) ∷ (1, 6, 3, some 2) ∷ []) 4)
    ∷ predicts Archive (united Archive A B) (5 ∷ 6 ∷ []) (refuse 11 [])
    -- Archive B with A, called T: k 2, (0,5,1,1) (0,7,3,1) (1,6,2,2).
    ∷ gives T (made none 2 ((0, 5, 1, some 1) ∷ (0, 7, 3, some 1) ∷ (1, 6, 2, some 2) ∷ []) 4)
    -- Intake A with B: k 2, (0,5,1,1) (0,7,2,1) (1,6,3,2). Tokens 5 6: 2 after 2 rows. 5 9: 1 after 1. 9 5: 1 after 1.
    ∷ gives (united Intake A B) (made none 2 ((0, 5, 1, some 1) ∷ (0, 7, 2, some 1) ∷ (1, 6, 3, some 2) ∷ []) 4)
    ∷ predicts Intake (united Intake A B) (5 ∷ 6 ∷ []) (chosen 2 2)
    ∷ predicts Intake (united Intake A B) (5 ∷ 9 ∷ []) (chosen 1 1)
    ∷ predicts Intake (united Intake A B) (9 ∷ 5 ∷ []) (chosen 1 1)
    -- Explain 5 9: 1 matched, row (1,6,3,2). Explain 5: 1 matched, no rows.
    ∷ explains (united Intake A B) (5 ∷ 9 ∷ []) (accept 1) (record { start = 8; count = 4 })
    ∷ explains (united Intake A B) (5 ∷ []) (accept 1) (record { start = 12; count = 0 })
    -- Archive shrink of T: 3 states, (0,5,1,1) (0,7,1,1); tokens 5 6 now give 1. Intake shrink of T: T itself.
    ∷ gives (shrunk Archive T) (made none 2 ((0, 5, 1, some 1) ∷ (0, 7, 1, some 1) ∷ []) 3)
    ∷ predicts Archive (shrunk Archive T) (5 ∷ 6 ∷ []) (chosen 1 1)
    ∷ gives (shrunk Intake T) (made none 2 ((0, 5, 1, some 1) ∷ (0, 7, 3, some 1) ∷ (1, 6, 2, some 2) ∷ []) 4)
    -- Empty string under 1 with empty string under 2: archive prod0 1; intake 8 with 1, 2.
    ∷ gives (united Archive (empty_string 1) (empty_string 2)) (made (some 1) 0 [] 1)
    ∷ gives (united Intake (empty_string 1) (empty_string 2)) (refuse 8 (1 ∷ 2 ∷ []))
    -- String 5 under 1 with string 5 under 2: 8 in both.
    ∷ gives (united Archive (string_5 1) (string_5 2)) (refuse 8 (1 ∷ 2 ∷ []))
    ∷ gives (united Intake (string_5 1) (string_5 2)) (refuse 8 (1 ∷ 2 ∷ []))
    -- prod0 1, (0,3,1,1) (0,5,2,2): archive shrink leaves 2 states, no rows; intake 3 states, 2 rows.
    ∷ gives (shrunk Archive two_leaves) (made (some 1) 1 [] 2)
    ∷ gives (shrunk Intake two_leaves) (made (some 1) 1 ((0, 3, 1, some 1) ∷ (0, 5, 2, some 2) ∷ []) 3)
    -- prod0 3, k 2, (0,5,1,-1) (1,6,2,4): tokens 5 9 give 12 in archive, 3 in intake; 9 9 give 3 in both.
    ∷ predicts Archive late (5 ∷ 9 ∷ []) (refuse 12 [])
    ∷ predicts Intake late (5 ∷ 9 ∷ []) (chosen 3 1)
    ∷ predicts Archive late (9 ∷ 9 ∷ []) (chosen 3 0)
    ∷ predicts Intake late (9 ∷ 9 ∷ []) (chosen 3 0)
    ∷ []

-- Worked in the document without a star.
unfoldable pub unstarred : List Case
unstarred =
    -- prod0 -1, (0,4,1,7) (0,6,2,-1) (2,4,3,7) shrinks in both modes to 3 states; shrinking that again: 4.
    gives (shrunk Archive two_sevens) (made none 2 ((0, 4, 1, some 7) ∷ (0, 6, 2, none) ∷ (2, 4, 1, some 7) ∷ []) 3)
    ∷ gives (shrunk Intake two_sevens) (made none 2 ((0, 4, 1, some 7) ∷ (0, 6, 2, none) ∷ (2, 4, 1, some 7) ∷ []) 3)
    ∷ gives (shrunk Archive (shrunk Archive two_sevens)) (refuse 4 [])
    ∷ gives (shrunk Intake (shrunk Intake two_sevens)) (refuse 4 [])
    -- Length 16 is taken, 17 is 2.
    ∷ predicts Archive (list 6 (long ∷ [])) long (chosen 6 16)
    ∷ gives (list 6 ((17 ∷ long) ∷ [])) (refuse 2 [])
    -- What the lists A and B define, as intake A with B predicts.
    ∷ defines a_and_b (5 ∷ 6 ∷ []) (accept 2)
    ∷ defines a_and_b (5 ∷ 9 ∷ []) (accept 1)
    ∷ defines a_and_b (9 ∷ 5 ∷ []) (accept 1)
    ∷ defines a_and_b (9 ∷ 6 ∷ []) (refuse 11 [])
    -- `tabrep` on T.
    ∷ prints "Dfa(-1, 2)\nTrans(0, 5, 1, 1),\nTrans(0, 7, 3, 1),\nTrans(1, 6, 2, 2),\n" "in 4 3\narchive 3 2\nintake 4 3\n"
    ∷ prints "" "refused 13\n"
    ∷ []
