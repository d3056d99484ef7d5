-- Any two results that a contract allows are identical: an answer's number and values determine the answer, and a
-- ruling determines what a lent slice holds. Assumes nothing.
use mathlib.Core.Path.{◌≡◌, refl, sym, ap, ◌∙◌}
use mathlib.Core.Bool.{cond}
use mathlib.Core.List.{List}
use Prim.Native.Nat.{ℕ}
use lib.Dec.{eqb}
use lib.ListN.{get_or}
use lib.IntN.{ℤ}
use denote.Ref.{Bor}
use Rattle.paper.specs.declared.Refusal.{Refusal}
use Rattle.paper.specs.declared.Refusal.TheVariants as refusal
use Rattle.paper.specs.declared.Heading.{Heading}
use Rattle.paper.specs.declared.Title.{Title}
use Rattle.paper.specs.declared.Prediction.{Prediction}
use Rattle.std.specs.Prelude.{Result, Ok, Err}
use Rattle.paper.specs.Rows.{Table}
use Rattle.paper.specs.Explain.{Stretch, PartOf}
use Rattle.paper.specs.Answers.{Ruling, accept, refuse, number, detail, Made, Chosen, stated, predicted, Makes, Reads, Writes}

-- The refusal of a number and a detail.
refusal_of : ℕ → List ℕ → Refusal
refusal_of n d =
    cond (eqb n 1) refusal.Length (cond (eqb n 2) refusal.Range (cond (eqb n 3) refusal.Order (
    cond (eqb n 4) refusal.Shape (cond (eqb n 5) refusal.Loose (cond (eqb n 6) refusal.Split (
    cond (eqb n 7) refusal.Tree (
    cond (eqb n 8) (refusal.Clash (record { 0 = get_or d 0 0 }) (record { 0 = get_or d 1 0 })) (
    cond (eqb n 9) refusal.Mismatch (cond (eqb n 10) refusal.Short (cond (eqb n 11) refusal.None (
    cond (eqb n 12) refusal.Root (cond (eqb n 13) (refusal.Text (get_or d 0 0)) refusal.Full))))))))))))

refusal_back : (r : Refusal) → refusal_of (number r) (detail r) ≡ r
unfolding refusal_of
refusal_back refusal.Length = refl
refusal_back refusal.Range = refl
refusal_back refusal.Order = refl
refusal_back refusal.Shape = refl
refusal_back refusal.Loose = refl
refusal_back refusal.Split = refl
refusal_back refusal.Tree = refl
refusal_back (refusal.Clash p q) = refl
refusal_back refusal.Mismatch = refl
refusal_back refusal.Short = refl
refusal_back refusal.None = refl
refusal_back refusal.Root = refl
refusal_back (refusal.Text at) = refl
refusal_back refusal.Full = refl

-- what is read back of what an answer states is the answer
determined : {A B : Type 0} (f : A → B) (g : B → A) → ((a : A) → g (f a) ≡ a) → (a b : A) → f a ≡ f b → a ≡ b
determined f g back a b e = sym (back a) ∙ ap g e ∙ back b

answer_of : {A : Type 0} → Ruling A → Result A Refusal
answer_of (accept a) = Ok a
answer_of (refuse n d) = Err (refusal_of n d)

answer_back : {A : Type 0} (a : Result A Refusal) → answer_of (stated a) ≡ a
unfolding answer_of
answer_back (Ok x) = refl
answer_back (Err r) = ap Err (refusal_back r)

-- an answer is told by what it states
pub one_answer : {A : Type 0} (a b : Result A Refusal) → stated a ≡ stated b → a ≡ b
one_answer {A} = determined stated answer_of (answer_back {A = A})

pub one_making : (a b : Result Heading Refusal) → stated a ≡ stated b → a ≡ b
one_making = one_answer

prediction_of : Ruling Chosen → Result Prediction Refusal
prediction_of (accept c) = Ok (record { production = record { 0 = c.production }; entered = c.entered })
prediction_of (refuse n d) = Err (refusal_of n d)

pub one_prediction : (a b : Result Prediction Refusal) → predicted a ≡ predicted b → a ≡ b
unfolding prediction_of
one_prediction = determined predicted prediction_of back
  where
    back : (a : Result Prediction Refusal) → prediction_of (predicted a) ≡ a
    back (Ok p) = refl
    back (Err r) = ap Err (refusal_back r)

pub one_explanation : (a b : Result ℕ Refusal) → stated a ≡ stated b → a ≡ b
one_explanation = one_answer

pub one_reading : (a b : Result Title Refusal) → stated a ≡ stated b → a ≡ b
one_reading = one_answer

pub one_writing : (a b : Result ℕ Refusal) → stated a ≡ stated b → a ≡ b
one_writing = one_answer

-- build, unite, shrink: one answer and one output
pub makes_one : (ruling : Ruling Made) (old : List ℤ) (a b : Result Heading Refusal) (new new' : List ℤ)
    → Makes ruling a old new → Makes ruling b old new' → (a ≡ b) × (new ≡ new')
makes_one ruling old a b new new' m m' =
    (one_making a b (m.says ∙ sym m'.says), m.holds ∙ sym m'.holds)

-- text in
pub reads_one : (ruling : Ruling Table) (old : List ℤ) (a b : Result Title Refusal) (new new' : List ℤ)
    → Reads ruling a old new → Reads ruling b old new' → (a ≡ b) × (new ≡ new')
reads_one ruling old a b new new' m m' =
    (one_reading a b (m.says ∙ sym m'.says), m.holds ∙ sym m'.holds)

-- text out, batch
pub writes_one : {E : Type 0} (ruling : Ruling (List E)) (old : List E) (a b : Result ℕ Refusal) (new new' : List E)
    → Writes ruling a old new → Writes ruling b old new' → (a ≡ b) × (new ≡ new')
writes_one ruling old a b new new' m m' =
    (one_writing a b (m.says ∙ sym m'.says), m.holds ∙ sym m'.holds)

-- explain's returned part: its numbers, and where it lies
pub part_one : (slice a b : Bor (List ℤ)) (s : Stretch) → PartOf slice a s → PartOf slice b s
    → (a.now ≡ b.now) × (a.ref_ptr ≡ b.ref_ptr)
part_one slice a b s p q =
    (p.holds ∙ sym q.holds, λ i. ((p.block ∙ sym q.block) i, (p.offset ∙ sym q.offset) i))
