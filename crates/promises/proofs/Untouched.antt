-- Demand 1: a refusal changes no lent slice. (Predict and explain lend none to write to.) Assumes nothing.
use mathlib.Core.Path.{◌≡◌, ap, ◌∙◌}
use mathlib.Core.List.{List}
use lib.IntN.{ℤ}
use Rattle.paper.specs.declared.Refusal.{Refusal}
use Rattle.std.specs.Prelude.{Err}
use Rattle.paper.specs.Rows.{Table}
use Rattle.paper.specs.Answers.{Ruling, accept, refuse, then, output, number, detail, Made, Makes, Reads, Writes}
use Rattle.laws.proofs.Refusals.{refused_is}

-- whatever the ruling, if a refusal is stated
untouched : {A B E : Type 0} (told : A → B) (write : A → List E) (g : Ruling A) (f : Refusal) (old new : List E) →
    refuse (number f) (detail f) ≡ then g (λ a. accept (told a)) → new ≡ output write g old → new ≡ old
untouched told write g f old new e h =
    h ∙ ap (λ (r : Ruling _). output write r old) (refused_is told g (number f) (detail f) e)

-- the calls that make a table
pub makes_untouched : (g : Ruling Made) (f : Refusal) (old new : List ℤ) → Makes g (Err f) old new →
    new ≡ old
makes_untouched g f old new m = untouched _ _ g f old new m.says m.holds

-- text in
pub reads_untouched : (g : Ruling Table) (f : Refusal) (old new : List ℤ) → Reads g (Err f) old new →
    new ≡ old
reads_untouched g f old new m = untouched _ _ g f old new m.says m.holds

-- text out and batch
pub writes_untouched : {E : Type 0} (g : Ruling (List E)) (f : Refusal) (old new : List E) →
    Writes g (Err f) old new → new ≡ old
writes_untouched g f old new m = untouched _ _ g f old new m.says m.holds
