use mathlib.Core.Path.{sym, ap, ◌∙◌}
use Rattle.std.proofs.lemmas.Result.{err_from_is_err_and}
use lib.ListN.{length}
use Rattle.paper.specs.declared.Table.{Table}
use Rattle.paper.specs.declared.Refusal.TheVariants as refusal
use Rattle.laws.proofs.Writing.{refused}
use Rattle.batch.proofs.Counts.{lengths_passed}
use Rattle.batch.proofs.Batched.{refused_slice, refused_lengths, refused_table, refused_stream, written}
use Rattle.batch.proofs.batch.Goals as goal

pub returns-then-row_slice : goal.returns-then-row_slice
returns-then-row_slice c =
    let a = c.args in
    let t = a.lent in
    refused refusal.Length (refused_slice a.mode t.prod0 t.k t.rows.now a.stream a.count a.tokens.now
    (length a.answers.now) (sym c.row_slice.ensures ∙ c.if-row_slice.true))

pub returns-then-lengths : goal.returns-then-lengths
returns-then-lengths c =
    let a = c.args in
    let t = a.lent in
    refused refusal.Length (refused_lengths a.mode t.prod0 t.k t.rows.now a.stream a.count a.tokens.now
    (length a.answers.now) (sym c.row_slice.ensures ∙ c.if-row_slice.false) (sym c.lengths.ensures ∙ c.if-lengths.true))

pub returns-in_err-checked : goal.returns-in_err-checked
returns-in_err-checked c =
    let a = c.args in
    let t = a.lent in
    let p = err_from_is_err_and c.from_residual.result c.from_residual.ensures.1 in
    rw (p.1, p.2) (refused _ (refused_table a.mode t.prod0 t.k t.rows.now a.stream a.count a.tokens.now
    (length a.answers.now) (sym c.row_slice.ensures ∙ c.if-row_slice.false)
    (sym c.lengths.ensures ∙ c.if-lengths.false) _ c.in_err-checked.ensures.judges))

pub returns-then-stream-lent : goal.returns-then-stream-lent
returns-then-stream-lent c =
    let a = c.args in
    let t = a.lent in
    refused refusal.Mismatch (refused_stream a.mode t.prod0 t.k t.rows.now a.stream a.count a.tokens.now
    (length a.answers.now) (sym c.row_slice.ensures ∙ c.if-row_slice.false)
    (sym c.lengths.ensures ∙ c.if-lengths.false) _ c.in_ok-checked.ensures.judges c.if-stream-lent.true)

pub fill-requires : goal.fill-requires
fill-requires c =
    let n = lengths_passed c.args.lent.k c.args.count (length c.args.tokens.now) (length c.args.answers.now)
    (sym c.lengths.ensures ∙ c.if-lengths.false) in
    let k = ap (λ (x : Table). x.k) c.in_ok-checked.ensures.same in
    (rw k n.0, n.1, n.2)

pub returns : goal.returns
returns c =
    let a = c.args in
    let t = a.lent in
    written a.mode t.prod0 t.k t.rows.now a.stream a.count a.tokens.now
    (length a.answers.now) (sym c.row_slice.ensures ∙ c.if-row_slice.false)
    (sym c.lengths.ensures ∙ c.if-lengths.false) _ c.in_ok-checked.ensures.judges
    a.answers.now _ c.if-stream-lent.false (rw c.in_ok-checked.ensures.same at c.fill.ensures)
