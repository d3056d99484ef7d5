-- The walk of the code as the walk of document 01.
use Rattle.std.proofs.Math.Option.{some}
use Rattle.rows.specs.Places.{given}
use Rattle.paper.specs.Rows.{Row}
use Rattle.paper.specs.Predict as paper
use Rattle.paper.specs.Predict.{go_by}
use Rattle.walk.specs.declared.Walk.{Walk}

-- The walk, as the paper says it.
abbrev pub seen : Walk → paper.Walk
seen w = record { state = w.state.0; entered = w.entered; last = given w.last }

-- The walk after a row is entered.
abbrev pub entering : Row → paper.Walk → paper.Walk
entering r w = go_by w (some r)
