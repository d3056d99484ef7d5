-- A row of the second looked up in the first alone.
use Rattle.std.specs.Prelude.{◌≡◌, cond, List, ℕ, eqb, Result, Ok, Err}
use Rattle.std.proofs.Math.Option.{Option, none, some}
use Rattle.std.specs.declared.option.Option as rust
use Rattle.std.specs.Prelude.{Some, None}
use Rattle.paper.specs.declared.Mode.{Mode}
use Rattle.paper.specs.declared.State.{State}
use Rattle.paper.specs.declared.Refusal.{Refusal}
use Rattle.paper.specs.Rows.{Row, find}
use Rattle.paper.specs.Answers.{Ruling, accept, refuse, then, number, detail}
use Rattle.paper.specs.Unite.{taken}
use Rattle.unite_taking.specs.Taking.{Clashes, Accepts}

-- A match of the code, as the definitions have it.
abbrev pub state_of : rust.Option State → Option ℕ
state_of None = none
state_of (Some s) = some s.0

-- What the map holds for a match: 65,535 for none.
abbrev pub mark : Option ℕ → ℕ
mark none = 65535
mark (some s) = s

-- The match that the map holds.
abbrev pub unmark : ℕ → Option ℕ
unmark m = cond (eqb m 65535) none (some m)

-- The row from a match by a terminal; from no match there is none.
unfoldable pub seek : List Row → Option ℕ → ℕ → Option Row
seek rs none t = none
seek rs (some s) t = find rs s t

-- The match of the state that the row leads to, or CLASH with its production.
unfoldable pub looked : Mode → Option ℕ → Option Row → Ruling (Option ℕ)
looked mode q none = accept none
looked mode q (some x) = then (taken mode x.production q) (λ _. accept (some x.to))

-- The answer states the ruling.
abbrev pub Looks : Ruling (Option ℕ) → Result (rust.Option State) Refusal → Type 0
Looks g (Ok s) = g ≡ accept (state_of s)
Looks g (Err f) = g ≡ refuse (number f) (detail f)

-- The answer of the search for a clash.
abbrev pub Scanned : Mode → List Row → List Row → Result Unit Refusal → Type 0
Scanned mode xs ys (Ok u) = Accepts mode xs ys
Scanned mode xs ys (Err f) = Clashes mode xs ys f
