-- The intake desk's one call: the lists as they are lent, built, united one after the other and shrunk, all in intake
-- mode and into output slices of 16,384 numbers.
use Rattle.std.specs.Prelude.{ℕ, Bool, not, ◌||◌, List, [], ◌∷◌, length, take, drop, ℤ, eqb}
use Rattle.paper.specs.Answers.{Ruling, accept, refuse, then, Made}
use Rattle.paper.specs.Checks.{first, little_room}
use Rattle.paper.specs.Build.{sum, build}
use Rattle.trees.specs.Chain.{unite_made}
use Rattle.promises.specs.Demand.{shrink_made}

-- A list as build takes it.
pub record Lent : Type 0 where
  pub production : ℤ
  pub lengths : List ℕ
  pub tokens : List ℕ

-- Each list takes its count of lengths off the front, and of the tokens as many as these sum to.
unfoldable pub lists_in : List ℤ → List ℕ → List ℕ → List ℕ → List Lent
lists_in [] cs ns ts = []
lists_in (p ∷ ps) [] ns ts = []
lists_in (p ∷ ps) (c ∷ cs) ns ts =
    record { production = p; lengths = take c ns; tokens = take (sum (take c ns)) ts }
    ∷ lists_in ps cs (drop c ns) (drop (sum (take c ns)) ts)

-- A list is built.
unfoldable pub build_lent : Lent → Ruling Made
build_lent l = build l.production l.tokens l.lengths 16384

-- One more list, built and then united to what there is.
unfoldable pub join_lent : Made → Lent → Ruling Made
join_lent a l = then (build_lent l) (λ b. unite_made a b)

-- Each of the other lists, one after the other.
unfoldable pub join_all : Made → List Lent → Ruling Made
join_all a [] = accept a
join_all a (l ∷ ls) = then (join_lent a l) (λ c. join_all c ls)

-- The first list is built, and the others are joined to it; no list is no table.
unfoldable pub unite_all : List Lent → Ruling Made
unite_all [] = refuse 1 []
unite_all (l ∷ ls) = then (build_lent l) (λ a. join_all a ls)

-- 1 LENGTH: an output too short, no list, productions and counts of different length, counts that do not sum to the
-- number of string lengths, or string lengths that do not sum to the token count.
unfoldable pub lists_lengths : List ℤ → List ℕ → List ℕ → List ℕ → ℕ → Bool
lists_lengths ps cs ns ts room =
    little_room room || (eqb (length ps) 0 || (not (eqb (length ps) (length cs))
    || (not (eqb (sum cs) (length ns)) || not (eqb (sum ns) (length ts)))))

-- Productions, counts of strings, string lengths, tokens, and the length of the output.
unfoldable pub table_of : List ℤ → List ℕ → List ℕ → List ℕ → ℕ → Ruling Made
table_of ps cs ns ts room =
    first ((lists_lengths ps cs ns ts room, 1) ∷ []) (then (unite_all (lists_in ps cs ns ts)) shrink_made)
