-- A call that writes: a refusal leaves its output, and what was written stands at the front. Assumes nothing.
use mathlib.Core.Path.{◌≡◌}
use mathlib.Core.List.{List, ◌++◌}
use lib.ListN.{length, drop}
use Rattle.paper.specs.declared.Refusal.{Refusal}
use Rattle.std.specs.Prelude.{Ok, Err}
use Rattle.paper.specs.Answers.{Ruling, accept, refuse, number, detail, Writes}

module _ {E : Type 0} {ruling : Ruling (List E)} {old : List E} where
  pub refused : (r : Refusal) → ruling ≡ refuse (number r) (detail r) → Writes ruling (Err r) old old
  refused r e = record { says = rw e; holds = rw e }

  pub written : {t new : List E} → ruling ≡ accept t → new ≡ t ++ drop (length t) old
      → Writes ruling (Ok (length t)) old new
  written e h = record { says = rw e; holds = rw e h }
