-- What comes of two productions of one state, as the code says it.
use Rattle.std.specs.Prelude.{◌≡◌, ℕ, Result, Ok, Err}
use Rattle.std.proofs.Math.Option.{Option}
use Rattle.std.specs.declared.option.Option as rust
use Rattle.paper.specs.declared.Production.{Production}
use Rattle.paper.specs.declared.Refusal.{Refusal}
use Rattle.paper.specs.Answers.{Ruling, accept, refuse, number, detail}
use Rattle.rows.specs.Places.{given}

-- A production or none, or a refusal with its detail.
abbrev pub Meets : Ruling (Option ℕ) → Result (rust.Option Production) Refusal → Type 0
Meets g (Ok p) = g ≡ accept (given p)
Meets g (Err f) = g ≡ refuse (number f) (detail f)
