-- What comes of all strings: the table.
use Rattle.std.specs.Prelude.{◌≡◌, ◌<◌, length, Result, Ok, Err}
use Rattle.paper.specs.declared.Refusal.{Refusal}
use Rattle.paper.specs.declared.Refusal.TheVariants.{Full}
use Rattle.paper.specs.Rows.{Table}
use Rattle.rows.specs.Places.{given}
use Rattle.grow.specs.declared.Growing.{Growing}
use Rattle.grow.specs.Seen.{rows_of}
use Rattle.build_strings.specs.declared.Head.{Head}

-- The table whose rows those are, or it would have a 1,024th row.
abbrev pub Grows : Growing → Table → Result Head Refusal → Type 0
Grows new t (Ok h) = t ≡ record { prod0 = given h.prod0; k = h.k; rows = rows_of new }
Grows new t (Err e) = (e ≡ Full) × (1023 < length t.rows)
