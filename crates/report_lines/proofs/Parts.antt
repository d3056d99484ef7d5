-- The bytes of the lines, as they are written one after another. Assumes nothing.
use Prim.Native.Nat.{ℕ, ◌<◌}
use mathlib.Core.Path.{◌≡◌}
use mathlib.Core.List.{List, [], ◌∷◌, ◌++◌, append_assoc}
use native.Mathlib.Omega.{arith}
use Rattle.paper.specs.declared.Refusal.{Refusal}
use Rattle.paper.specs.declared.Refusal.TheVariants as refusal
use Rattle.paper.specs.Words.{bytes}
use Rattle.paper.specs.Answers.{number, detail, refuse}
use Rattle.paper.specs.Text.{digits, decimal}
use Rattle.paper.specs.Tabrep.{line, printed}
use Rattle.report_lines.specs.declared.sizes.Sizes.{Sizes}
use Rattle.report_lines.specs.Printed.{labelled, three}

pub line_parts : (w : List ℕ) (a b : ℕ) →
    ((w ++ digits 5 a) ++ ((32 ∷ []) ++ digits 5 b)) ++ (10 ∷ []) ≡ labelled w a b
unfolding labelled decimal
line_parts w a b = simp append_assoc

pub refused_parts : (n : ℕ) (f : Refusal) → n ≡ number f →
    ((114 ∷ 101 ∷ 102 ∷ 117 ∷ 115 ∷ 101 ∷ 100 ∷ 32 ∷ []) ++ digits 5 n) ++ (10 ∷ [])
    ≡ printed (refuse (number f) (detail f))
unfolding printed decimal bytes
refused_parts n f e = rw e

pub three_parts : (t a i : Sizes) →
    (labelled (105 ∷ 110 ∷ 32 ∷ []) t.states t.rows
    ++ labelled (97 ∷ 114 ∷ 99 ∷ 104 ∷ 105 ∷ 118 ∷ 101 ∷ 32 ∷ []) a.states a.rows)
    ++ labelled (105 ∷ 110 ∷ 116 ∷ 97 ∷ 107 ∷ 101 ∷ 32 ∷ []) i.states i.rows
    ≡ three t a i
unfolding three labelled line bytes
three_parts t a i = append_assoc
    (labelled (105 ∷ 110 ∷ 32 ∷ []) t.states t.rows)
    (labelled (97 ∷ 114 ∷ 99 ∷ 104 ∷ 105 ∷ 118 ∷ 101 ∷ 32 ∷ []) a.states a.rows)
    (labelled (105 ∷ 110 ∷ 116 ∷ 97 ∷ 107 ∷ 101 ∷ 32 ∷ []) i.states i.rows)

-- a refusal's number has two digits at most
pub number_small : (f : Refusal) → number f < 100000
number_small refusal.Length = omega arith
number_small refusal.Range = omega arith
number_small refusal.Order = omega arith
number_small refusal.Shape = omega arith
number_small refusal.Loose = omega arith
number_small refusal.Split = omega arith
number_small refusal.Tree = omega arith
number_small (refusal.Clash p q) = omega arith
number_small refusal.Mismatch = omega arith
number_small refusal.Short = omega arith
number_small refusal.None = omega arith
number_small refusal.Root = omega arith
number_small (refusal.Text at) = omega arith
number_small refusal.Full = omega arith
