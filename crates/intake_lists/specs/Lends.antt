-- Lists as the call takes them: their productions, their counts of strings, and the lengths and the tokens of all
-- strings, laid one after the other.
use Rattle.std.specs.Prelude.{ℕ, List, [], ◌∷◌, ◌++◌, map, length, ℤ, pos}
use Rattle.paper.specs.Answers.{Ruling, Made}
use Rattle.paper.specs.Lists.{Opening}
use Rattle.paper.specs.Build.{joined}
use Rattle.intake_lists.specs.Call.{table_of}

-- The productions.
unfoldable pub productions_of : List Opening → List ℤ
productions_of ls = map (λ l. pos l.production) ls

-- How many strings each list has.
unfoldable pub counts_of : List Opening → List ℕ
counts_of ls = map (λ l. length l.strings) ls

-- The lengths of all strings.
unfoldable pub lengths_of : List Opening → List ℕ
lengths_of [] = []
lengths_of (l ∷ ls) = map (λ σ. length σ) l.strings ++ lengths_of ls

-- The tokens of all strings.
unfoldable pub tokens_of : List Opening → List ℕ
tokens_of [] = []
tokens_of (l ∷ ls) = joined l.strings ++ tokens_of ls

-- What the call makes of them.
abbrev pub call_of : List Opening → ℕ → Ruling Made
call_of ls room = table_of (productions_of ls) (counts_of ls) (lengths_of ls) (tokens_of ls) room
