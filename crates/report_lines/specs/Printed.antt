-- The lines that are printed, of sizes.
use Rattle.std.specs.Prelude.{ℕ, List, [], ◌∷◌, ◌++◌, pos}
use Prim.Native.String.{String}
use Rattle.paper.specs.Text.{decimal}
use Rattle.paper.specs.Tabrep.{line}
use Rattle.report_lines.specs.declared.sizes.Sizes.{Sizes}

-- A label, which ends in a space, and two numbers.
unfoldable pub labelled : List ℕ → ℕ → ℕ → List ℕ
labelled w a b = w ++ (decimal (pos a) ++ (32 ∷ decimal (pos b) ++ (10 ∷ [])))

-- A line of sizes.
abbrev pub sized : String → Sizes → List ℕ
sized label x = line label x.states x.rows

-- The three lines, of the table's sizes and those that archive and intake shrink it to.
unfoldable pub three : Sizes → Sizes → Sizes → List ℕ
three t a i = sized "in" t ++ (sized "archive" a ++ sized "intake" i)
