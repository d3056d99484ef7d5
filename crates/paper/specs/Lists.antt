-- Document 01, "What the string lists define", and the words of demand 3.
use Rattle.std.specs.Prelude.{ℕ, zero, suc, max, Bool, true, false, cond, ◌&&◌, ◌||◌, List, [], ◌∷◌, ◌++◌, map, length, take, eqb}
use Rattle.std.proofs.Math.Option.{Option, none, some}
use Rattle.paper.specs.Answers.{Ruling, accept, refuse}
use Rattle.paper.specs.Predict.{or_else}

-- One or more productions' lists: a production number, and its strings.
pub record Opening : Type 0 where
  pub production : ℕ
  pub strings : List (List ℕ)

-- p begins σ.
unfoldable pub begins : List ℕ → List ℕ → Bool
begins [] σ = true
begins (a ∷ p) [] = false
begins (a ∷ p) (b ∷ σ) = eqb a b && begins p σ

-- p begins one of the strings.
unfoldable pub begins_one : List ℕ → List (List ℕ) → Bool
begins_one p [] = false
begins_one p (σ ∷ σs) = begins p σ || begins_one p σs

-- p begins some string.
unfoldable pub begins_some : List Opening → List ℕ → Bool
begins_some [] p = false
begins_some (l ∷ ls) p = begins_one p l.strings || begins_some ls p

-- Two strings are the same.
unfoldable pub same_string : List ℕ → List ℕ → Bool
same_string [] [] = true
same_string [] (b ∷ σ) = false
same_string (a ∷ p) [] = false
same_string (a ∷ p) (b ∷ σ) = eqb a b && same_string p σ

-- p is among the strings.
unfoldable pub among : List ℕ → List (List ℕ) → Bool
among p [] = false
among p (σ ∷ σs) = same_string p σ || among p σs

-- The production that the string p stands under.
unfoldable pub stands_under : List Opening → List ℕ → Option ℕ
stands_under [] p = none
stands_under (l ∷ ls) p = cond (among p l.strings) (some l.production) (stands_under ls p)

-- If p then t begins some string, p becomes that.
unfoldable pub become : List Opening → List ℕ → List ℕ → List ℕ
become ls p [] = p
become ls p (t ∷ ts) = become ls (cond (begins_some ls (p ++ (t ∷ []))) (p ++ (t ∷ [])) p) ts

-- The production of the longest string that begins p and has at most n tokens, the empty string included.
unfoldable pub longest_within : List Opening → List ℕ → ℕ → Option ℕ
longest_within ls p zero = stands_under ls []
longest_within ls p (suc n) = or_else (stands_under ls (take (suc n) p)) (longest_within ls p n)

-- k is the longest string.
unfoldable pub longest_string : List (List ℕ) → ℕ
longest_string [] = 0
longest_string (σ ∷ σs) = max (length σ) (longest_string σs)

-- Over all lists.
unfoldable pub longest : List Opening → ℕ
longest [] = 0
longest (l ∷ ls) = max (longest_string l.strings) (longest ls)

-- 11 if there is none.
unfoldable pub or_none : Option ℕ → Ruling ℕ
or_none none = refuse 11 []
or_none (some q) = accept q

-- Start with the empty beginning p and the first k tokens; the prediction is the production of the
-- longest string that begins p, p itself and the empty string included; 11 if there is none.
unfoldable pub defined : List Opening → List ℕ → Ruling ℕ
defined ls tokens =
    let p = become ls [] (take (longest ls) tokens) in
    or_none (longest_within ls p (length p))

-- The beginnings of a string, the empty one first.
unfoldable pub beginnings : List ℕ → List (List ℕ)
beginnings [] = [] ∷ []
beginnings (t ∷ σ) = [] ∷ map (λ p. t ∷ p) (beginnings σ)

-- The beginnings of each string.
unfoldable pub string_beginnings : List (List ℕ) → List (List ℕ)
string_beginnings [] = []
string_beginnings (σ ∷ σs) = beginnings σ ++ string_beginnings σs

-- All beginnings of all lists, the empty one included.
unfoldable pub all_beginnings : List Opening → List (List ℕ)
all_beginnings [] = [] ∷ []
all_beginnings (l ∷ ls) = string_beginnings l.strings ++ all_beginnings ls

-- Each once.
unfoldable pub distinct : List (List ℕ) → List (List ℕ)
distinct [] = []
distinct (p ∷ ps) = cond (among p ps) (distinct ps) (p ∷ distinct ps)
