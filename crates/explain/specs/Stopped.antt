-- Where the code's walk stopped, as document 01 has it.
use Rattle.std.specs.Prelude.{◌≡◌, List, ◌+◌, ◌≤◌, length, ℤ}
use Rattle.paper.specs.Explain as paper
use Rattle.explain.specs.declared.Stop.{Stop}
use Rattle.explain.specs.declared.Part.{Part}

-- Where the walk stopped, as the paper says it.
abbrev pub stopped : Stop → paper.Stop
stopped s = record { state = s.state.0; matched = s.matched; left_over = s.more }

-- A part is a stretch of the slice, and lies within it.
pub record Lies (ns : List ℤ) (s : paper.Stretch) (r : Part) : Type 0 where
  pub starts : r.start ≡ s.start
  pub counts : r.count ≡ s.count
  pub within : r.start + r.count ≤ length ns
