-- Any two results that an exported call's contract allows are identical: number, values and output. Assumes nothing.
use mathlib.Core.Path.{◌≡◌, sym, ◌∙◌}
use mathlib.Core.List.{List}
use Prim.Native.Nat.{ℕ}
use Rattle.paper.specs.Answers.{Ruling}
use Rattle.handed.specs.Handed.{Hands, Handed}

-- the number and the values
pub hands_one : {A : Type 0} (g : Ruling A) (f : A → List ℕ) (r s : ℕ) (a b : List ℕ) →
    Hands g f r a → Hands g f s b → (r ≡ s) × (a ≡ b)
hands_one g f r s a b x y = (x.says ∙ sym y.says, x.holds ∙ sym y.holds)

-- and the output
pub handed_one : {A E : Type 0} (f : A → List ℕ) (w : A → List E) (g : Ruling A) (old new now : List E) (r s : ℕ)
    (a b : List ℕ) → Handed f w g old new r a → Handed f w g old now s b → (new ≡ now) × ((r ≡ s) × (a ≡ b))
handed_one f w g old new now r s a b x y =
    (x.holds ∙ sym y.holds, hands_one g f r s a b x.hands y.hands)
