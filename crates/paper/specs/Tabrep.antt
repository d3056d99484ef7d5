-- Document 01's program `tabrep`: what it prints for what it reads.
use Rattle.std.specs.Prelude.{ℕ, cond, List, [], ◌∷◌, ◌++◌, length, pos, ltb}
use Prim.Native.String.{String}
use Rattle.paper.specs.declared.Mode.TheVariants.{Archive, Intake}
use Rattle.paper.specs.Words.{bytes}
use Rattle.paper.specs.Rows.{Table, states}
use Rattle.paper.specs.Answers.{Ruling, accept, refuse, then, Made}
use Rattle.paper.specs.Shrink.{shrink_table}
use Rattle.paper.specs.Text.{text_in, decimal}

-- A line of a label and two numbers.
unfoldable pub line : String → ℕ → ℕ → List ℕ
line label a b = bytes label ++ (32 ∷ decimal (pos a) ++ (32 ∷ decimal (pos b) ++ (10 ∷ [])))

-- Three lines, each a label, the states, the rows.
unfoldable pub lines_of : Table → Made → Made → List ℕ
lines_of t a i =
    line "in" (length (states t.rows)) (length t.rows)
    ++ (line "archive" a.states (length a.table.rows)
    ++ line "intake" i.states (length i.table.rows))

-- A text of at most 65,536 bytes, else 1; then text in, then shrink in both modes.
unfoldable pub report : List ℕ → Ruling (List ℕ)
report input = cond (ltb 65536 (length input)) (refuse 1 []) (
    then (text_in input 16384) (λ t.
    then (shrink_table Archive t) (λ a.
    then (shrink_table Intake t) (λ i.
    accept (lines_of t a i)))))

-- A refusal prints only `refused` and its number.
unfoldable pub printed : Ruling (List ℕ) → List ℕ
printed (accept bs) = bs
printed (refuse n d) = bytes "refused " ++ (decimal (pos n) ++ (10 ∷ []))

-- What tabrep prints for an input.
unfoldable pub tabrep : List ℕ → List ℕ
tabrep input = printed (report input)
