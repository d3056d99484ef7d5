use mathlib.Core.Path.{ap, ◌∙◌}
use Prim.Native.Nat.{ℕ}
use Rattle.merging.specs.Marks.{compared}
use Rattle.rows.specs.Places.{uncoded, given}
use Rattle.rows.proofs.Codes.{uncoded_code}
use Rattle.shrink_alike.proofs.faces.Faces.compared.Goals as goal

pub returns : goal.returns
returns c =
    let m = c.args.self.now.mode in
    let p = given c.args.p in
    c.compared.ensures ∙ ap (λ (n : ℕ). compared m (uncoded n)) c.code.ensures.0 ∙ ap (compared m) (uncoded_code p)
