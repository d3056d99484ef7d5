-- The verdict of 2 to 6 stands where it refuses; else 7 decides.
use mathlib.Core.Path.{refl, sym, ap, ◌∙◌}
use mathlib.Core.List.{[], ◌∷◌}
use Rattle.std.proofs.lemmas.Result.{err_from_is_err_and}
use Rattle.paper.specs.declared.Table.{Table}
use Rattle.paper.specs.declared.Refusal.TheVariants as refusal
use Rattle.paper.specs.Rows.{table}
use Rattle.paper.specs.Checks.{no_tree}
use Rattle.row_checks.proofs.Judged.{passes, refuses, next_passes, done}
use Rattle.ruled.proofs.Judging.{judges_stop, judges_on, passes_on, tree_rows}
use Rattle.ruled.proofs.verdict.tree.Goals as goal

pub returns-in_err-table-clause-judges : goal.returns-in_err-table-clause-judges
returns-in_err-table-clause-judges c =
    let t = c.args.lent.table in
    let p = err_from_is_err_and c.from_residual.result c.from_residual.ensures.1 in
    rw (p.1, p.2) (judges_stop ((no_tree (table t.prod0 t.k t.rows.now), 7) ∷ []) _ c.in_err-table.ensures.judges)

pub returns-then-no_tree-clause-judges : goal.returns-then-no_tree-clause-judges
returns-then-no_tree-clause-judges c =
    let t = c.args.lent.table in
    let e = c.few_rows.ensures ∙ ap (λ (x : Table). x.rows.now) c.in_ok-table.ensures.same in
    judges_on ((no_tree (table t.prod0 t.k t.rows.now), 7) ∷ []) (passes c.in_ok-table.ensures.judges)
    (refuses refusal.Tree refl refl
    (tree_rows t.prod0 t.k t.rows.now ∙ rw e at (sym c.no_tree.ensures) ∙ c.if-no_tree.true))

pub invariant_of-result : goal.invariant_of-result
invariant_of-result c =
    let t = c.args.lent.table in
    let e = c.few_rows.ensures ∙ ap (λ (x : Table). x.rows.now) c.in_ok-table.ensures.same in
    record {
      sound = record {
        checked = passes_on (passes c.in_ok-table.ensures.judges)
            (next_passes (tree_rows t.prod0 t.k t.rows.now ∙ rw e at (sym c.no_tree.ensures) ∙ c.if-no_tree.false) done);
        sized = c.args.lent.whole;
      };
    }
