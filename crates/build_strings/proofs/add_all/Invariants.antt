use Rattle.rows.specs.Places.{given}
use Rattle.build_strings.proofs.Listed.{Listing}
use Rattle.build_strings.proofs.add_all.Given as goal

abbrev pub invariant-loop-len : goal.invariant-loop-len
invariant-loop-len l =
    Listing l.production.0 l.list.tokens.now l.list.lengths.now l.rows l.rest (given l.head.prod0) l.head.k l.len-index
