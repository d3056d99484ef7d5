use mathlib.Core.Path.{sym}
use Rattle.std.proofs.Common.{rules}
use Rattle.rows.specs.Places.{given}
use Rattle.rows.proofs.Signed.{same}
use Rattle.counts.proofs.Arrays.{holds_as}
use Rattle.shrink_alike.proofs.Begins.{filled}
use Rattle.shrink.proofs.Parts.{shrunk_answer}
use Rattle.shrink.proofs.shrink_ruled.Goals as goal

pub mark-requires : goal.mark-requires
mark-requires c = filled 0

pub firsts-requires : goal.firsts-requires
firsts-requires c = holds_as (λ s. sym c.count.ensures) (filled c.count.result)

pub returns : goal.returns
returns c =
    let t = c.args.lent.table in
    let s = c.write_shrunk-sizes.result in
    rw (same t.prod0 (search rules))
    (shrunk_answer c.args.mode t.prod0 t.k t.rows.now c.args.lent.sound (given c.new.result.prod0) c.new.ensures.1
    c.args.out.now _ s.rows s.states (rw (c.new.ensures.0, c.new.ensures.2) at c.write_shrunk-sizes.ensures))
