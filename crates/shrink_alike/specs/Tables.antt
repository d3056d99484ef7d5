-- The table that shrinking looks up.
use Rattle.paper.specs.Rows.{Table}
use Rattle.rows.specs.Places.{given}
use Rattle.shrink_alike.specs.declared.faces.Faces.{Faces}
use Rattle.shrink_alike.specs.Faces.{coded}

-- Of a prod0 and the numbers of its rows.
abbrev pub table_of : Faces → Table
table_of f = coded (given f.prod0) f.rows.numbers.now
