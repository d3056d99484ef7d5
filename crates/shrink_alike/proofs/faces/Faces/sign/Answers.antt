use mathlib.Core.Path.{sym, ap, ◌∙◌}
use Prim.Native.Nat.{ℕ, ◌%◌}
use Rattle.paper.specs.Rows.{rows_in}
use Rattle.paper.specs.Shrink.{rows_of, redirect}
use Rattle.rows.specs.Places.{given}
use Rattle.shrink_alike.specs.Faces.{mark_in, hash}
use Rattle.shrink_alike.proofs.Alike.{sign_rows, sign_alone}
use Rattle.shrink_alike.proofs.faces.Faces.sign.Goals as goal

pub returns-then-compared-clause-value : goal.returns-then-compared-clause-value
returns-then-compared-clause-value c =
    let f = c.args.self.now in
    let ns = f.rows.numbers.now in
    let mark = mark_in c.args.class.now in
    c.hash.ensures.value
    ∙ ap (λ (x : ℕ). hash (x % 65521) (redirect mark (rows_of (rows_in ns) c.args.s))) c.code-h.ensures.0
    ∙ sign_rows f.mode (given f.prod0) ns mark c.args.s (given c.production-p.result) c.production-p.ensures
    (sym c.compared.ensures ∙ c.if-compared.true)

pub returns-else-compared-clause-value : goal.returns-else-compared-clause-value
returns-else-compared-clause-value c =
    let f = c.args.self.now in
    let mark = mark_in c.args.class.now in
    ap (λ (x : ℕ). x % 65521) c.code-h.ensures.0
    ∙ sign_alone f.mode (given f.prod0) f.rows.numbers.now mark c.args.s (given c.production-p.result)
    c.production-p.ensures (sym c.compared.ensures ∙ c.if-compared.false)
