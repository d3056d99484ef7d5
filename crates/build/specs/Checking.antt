-- What the checks 1 and 2 answer.
use Rattle.std.specs.Prelude.{◌≡◌, false, List, ℕ, ℤ, Result, Ok, Err}
use Rattle.paper.specs.declared.Refusal.{Refusal}
use Rattle.paper.specs.declared.Production.{Production}
use Rattle.paper.specs.Rows.{natural}
use Rattle.paper.specs.Answers.{Makes}
use Rattle.paper.specs.Build.{build_lengths, build_range, build}

-- The production, where both let the list through; else build's refusal, which leaves any output as it was.
abbrev pub Checks : ℤ → List ℕ → List ℕ → ℕ → Result Production Refusal → Type 0
Checks p ts ns room (Ok q) = (build_lengths ts ns room ≡ false) × (build_range p ns ≡ false) × (q.0 ≡ natural p)
Checks p ts ns room (Err r) = (old : List ℤ) → Makes (build p ts ns room) (Err r) old old
