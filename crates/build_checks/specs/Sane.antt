-- What the checks 1 and 2 leave to build.
use Rattle.std.specs.Prelude.{◌≡◌, false, List, ℕ, ◌≤◌, ltb, length}
use Rattle.paper.specs.Checks.{any}
use Rattle.paper.specs.Build.{sum}

-- The lengths sum to the token count, none is over 16, and there is room for the rows.
pub record Sane (tokens lengths : List ℕ) (room : ℕ) : Type 0 where
  pub sums : sum lengths ≡ length tokens
  pub short : any (λ n. ltb 16 n) lengths ≡ false
  pub space : 16384 ≤ room
