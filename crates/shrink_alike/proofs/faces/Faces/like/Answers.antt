use mathlib.Core.Path.{◌≡◌, refl, sym, ◌∙◌}
use Rattle.paper.specs.Checks.{same_production}
use Rattle.rows.specs.Places.{given}
use Rattle.rows.proofs.Codes.{same_given}
use Rattle.shrink_alike.specs.Faces.{production_at, mark_in}
use Rattle.shrink_alike.specs.Tables.{table_of}
use Rattle.shrink_alike.proofs.Alike.{like_not, like_cut, like_rows}
use Rattle.shrink_alike.proofs.faces.Faces.like.Goals as goal
use Rattle.shrink_alike.proofs.faces.Faces.like.Goals.{After-eq}

-- what the code compares
tested : (c : After-eq) → let t = table_of c.args.self.now in
    c.eq.result ≡ same_production (production_at t c.args.a) (production_at t c.args.b)
tested c =
    rw (← c.production-p.ensures, ← c.production.ensures)
    (c.eq.ensures ∙ same_given _ (λ p q. refl) c.production-p.result c.production.result)

pub returns-then-not-compared : goal.returns-then-not-compared
returns-then-not-compared c =
    let f = c.args.self.now in
    let t = tested (goal.at.returns-then-not-compared c).After-eq in
    rw c.if-not-compared.true
    (like_cut f.mode (given f.prod0) f.rows.numbers.now (mark_in c.args.class.now) c.args.a c.args.b
    (sym t ∙ c.if-eq.true)
    (rw c.production-p.ensures at (sym c.compared.ensures ∙ c.if-not-compared.true)))

pub returns-else-not-compared : goal.returns-else-not-compared
returns-else-not-compared c =
    let f = c.args.self.now in
    let t = tested (goal.at.returns-else-not-compared c).After-eq in
    c.same_rows.ensures
    ∙ like_rows f.mode (given f.prod0) f.rows.numbers.now (mark_in c.args.class.now) c.args.a c.args.b
    (sym t ∙ c.if-eq.true)
    (rw c.production-p.ensures at (sym c.compared.ensures ∙ c.if-not-compared.false))

pub returns-else-eq : goal.returns-else-eq
returns-else-eq c =
    let f = c.args.self.now in
    let t = tested (goal.at.returns-else-eq c).After-eq in
    c.if-eq.false
    ∙ like_not f.mode (given f.prod0) f.rows.numbers.now (mark_in c.args.class.now) c.args.a c.args.b
    (sym t ∙ c.if-eq.false)
