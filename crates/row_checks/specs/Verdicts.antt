-- What the checks of a call say, as a ruling.
use Rattle.std.specs.Prelude.{◌≡◌, Bool, not, List, [], ◌∷◌, ℕ, ℤ, Result, Ok, Err, ◌*◌, ◌/◌, ◌≤◌, length}
use Rattle.paper.specs.declared.Refusal.{Refusal}
use Rattle.paper.specs.Rows.{rows_in, table}
use Rattle.paper.specs.Answers.{Ruling, accept, refuse, then, stated, number, detail}
use Rattle.paper.specs.Checks.{first, every, row_fits, row_slice, order, plain}
use Rattle.rows.specs.Places.{bare}

-- The verdict is that of the checks in their order, whatever it gives where they pass.
pub record Judges {A : Type 0} (checks : List (Bool × ℕ)) (v : Result A Refusal) : Type 0 where
  pub says : ◌≡◌ {A = Ruling ℕ} (first checks (accept 0)) (then (stated v) (λ _. accept 0))

-- A verdict, followed by what is left to do.
abbrev pub follow : {A B : Type 0} → Result A Refusal → Ruling B → Ruling B
follow (Ok a) r = r
follow (Err f) r = refuse (number f) (detail f)

-- The checks 2 and 3 of rows alone.
abbrev pub of_rows : List ℤ → List (Bool × ℕ)
of_rows ns = (not (every row_fits (rows_in ns)), 2) ∷ (order (bare ns), 3) ∷ []

-- The check 1 of a row slice.
abbrev pub sized : List ℤ → List (Bool × ℕ)
sized ns = (row_slice ns, 1) ∷ []

-- The checks 1 to 3 of a table as it is lent.
abbrev pub whole : ℤ → ℕ → List ℤ → List (Bool × ℕ)
whole p k ns = (row_slice ns, 1) ∷ plain (table p k ns)

-- All of some checks pass.
pub record Passes (checks : List (Bool × ℕ)) : Type 0 where
  pub all : ◌≡◌ {A = Ruling ℕ} (first checks (accept 0)) (accept 0)

-- A table that passed 2 and 3.
pub record Sound (p : ℤ) (k : ℕ) (ns : List ℤ) : Type 0 where
  pub checked : Passes (plain (table p k ns))

-- A row slice that passed 1.
pub record Whole (ns : List ℤ) : Type 0 where
  pub few : length ns ≤ 16384
  pub fours : length ns / 4 * 4 ≡ length ns
