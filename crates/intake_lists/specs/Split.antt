-- The lists as they are lent, taken apart one after the other.
use Rattle.std.specs.Prelude.{suc, ◌≡◌, ◌∷◌, List, length, Option, Some, None}
use Rattle.paper.specs.declared.StringList.{StringList}
use Rattle.intake_lists.specs.declared.StringLists.{StringLists}
use Rattle.intake_lists.specs.declared.Lists.{Lists}
use Rattle.intake_lists.specs.Call.{Lent, lists_in}

-- The lists that the call takes.
abbrev pub lists_of : StringLists → List Lent
lists_of l = lists_in l.productions.now l.counts.now l.lengths.now l.tokens.now

-- One list.
abbrev pub list_of : StringList → Lent
list_of l = record { production = l.production; lengths = l.lengths.now; tokens = l.tokens.now }

-- There is none, or the first and the others.
abbrev pub Splits : StringLists → Option (StringList × Lists) → Type 0
Splits l None = length l.productions.now ≡ 0
Splits l (Some p) =
    (lists_of l ≡ list_of p.0 ∷ lists_of p.1.lent)
    × (length l.productions.now ≡ suc (length p.1.lent.productions.now))
