-- `shrunk_table` meets its contract: check 1, then the lists. Assumes nothing.
use mathlib.Core.Path.{sym, ◌∙◌}
use lib.ListN.{length}
use Rattle.intake_lists.proofs.Lengths.{passed}
use Rattle.intake_lists.proofs.Answering.{refused_lengths, taken}
use Rattle.intake.proofs.shrunk_table.Goals as goal

pub returns-then-lengths : goal.returns-then-lengths
returns-then-lengths c =
    let a = c.args.lists in
    refused_lengths a.productions.now a.counts.now a.lengths.now a.tokens.now (length c.args.out.now)
    c.args.out.now (sym c.lengths.ensures ∙ c.if-lengths.true)

pub invariant_of-shrunk : goal.invariant_of-shrunk
invariant_of-shrunk c =
    let a = c.args.lists in
    record {
      summed = (passed a.productions.now a.counts.now a.lengths.now a.tokens.now (length c.args.out.now)
          (sym c.lengths.ensures ∙ c.if-lengths.false)).summed;
    }

pub shrunk-requires : goal.shrunk-requires
shrunk-requires c =
    let a = c.args.lists in
    (passed a.productions.now a.counts.now a.lengths.now a.tokens.now (length c.args.out.now)
    (sym c.lengths.ensures ∙ c.if-lengths.false)).space

pub returns : goal.returns
returns c =
    let a = c.args.lists in
    taken a.productions.now a.counts.now a.lengths.now a.tokens.now (length c.args.out.now)
    c.args.out.now (sym c.lengths.ensures ∙ c.if-lengths.false) _ _ c.shrunk.ensures
