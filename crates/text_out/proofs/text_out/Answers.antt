-- `text_out::text_out` meets its contract. Each refusal is the definition's, and what is written is the text at the
-- front of the output. Assumes nothing.
use Rattle.std.proofs.Common.{◌∙◌, ℕ, List, refl, sym, arith, rules}
use Rattle.paper.specs.declared.Refusal.TheVariants.{Length}
use Rattle.std.proofs.lemmas.Result.{err_from_is_err_and}
use Rattle.text_out.proofs.Written.{adds_on, adds_as}
use Rattle.laws.proofs.Writing.{refused}
use lib.IntN.{ℤ}
use Rattle.std.specs.Prelude.{Ok}
use Rattle.paper.specs.Rows.{table}
use Rattle.paper.specs.Checks.{plain}
use Rattle.rows.proofs.Signed.{kept}
use Rattle.row_checks.specs.Verdicts.{Judges}
use Rattle.row_checks.proofs.Judged.{measured, passes, passes_first}
use Rattle.text_out.proofs.Out.{Ranged, in_range, written, out_sized, out_room, out_refused, out_text, text_parts}
use Rattle.text_out.proofs.text_out.Goals as goal

pub returns-in_err-sized : goal.returns-in_err-sized
returns-in_err-sized c =
    let p = err_from_is_err_and c.from_residual.result c.from_residual.ensures.1 in
    rw (p.1, p.2) (refused _ (out_sized _ _ _ _ _ c.in_err-sized.ensures.judges))

pub returns-then-out-lt262144 : goal.returns-then-out-lt262144
returns-then-out-lt262144 c =
    refused Length (out_room _ _ _ _ ((passes_first (passes c.in_ok-sized.ensures.judges)).0) c.if-out-lt262144.true)

pub returns-in_err-plain : goal.returns-in_err-plain
returns-in_err-plain c =
    let p = err_from_is_err_and c.from_residual-in_err-plain.result c.from_residual-in_err-plain.ensures.1 in
    let whole = (passes_first (passes c.in_ok-sized.ensures.judges)).0 in
    rw (p.1, p.2) (refused _ (out_refused _ _ _ _ whole c.if-out-lt262144.false _ c.in_err-plain.ensures.judges))

-- what a table is that passed 2 and 3
ranged : {A : Type 0} {a : A} (p : ℤ) (k : ℕ) (ns : List ℤ) → Judges (plain (table p k ns)) (Ok a) → Ranged p k ns
ranged p k ns j = in_range p k ns (passes_first (passes j)).0

pub put_head-requires : goal.put_head-requires
put_head-requires c =
    let t = c.args.table in
    let h = ranged t.prod0 t.k t.rows.now c.in_ok-plain.ensures.judges in
    (omega arith, rw (kept t.prod0 h.prod0) (omega (arith, h.prod0)), omega (arith, h.few))

pub put_rows-requires : goal.put_rows-requires
put_rows-requires c =
    let t = c.args.table in
    let few = (measured t.rows.now (passes_first (passes c.in_ok-sized.ensures.judges)).0).few in
    (omega (arith, few), (ranged t.prod0 t.k t.rows.now c.in_ok-plain.ensures.judges).rows)

pub returns : goal.returns
returns c =
    let t = c.args.table in
    let whole = (passes_first (passes c.in_ok-sized.ensures.judges)).0 in
    let few = (measured t.rows.now whole).few in
    let h = ranged t.prod0 t.k t.rows.now c.in_ok-plain.ensures.judges in
    let all = adds_on (rw (kept t.prod0 h.prod0) at c.put_head.ensures) (omega arith) c.put_rows.ensures in
    let kept = sym (c.put_rows.ensures.same ∙ c.put_head.ensures.same) in
    written {room = 262144}
    (out_text t.prod0 t.k t.rows.now _ whole c.if-out-lt262144.false (passes c.in_ok-plain.ensures.judges)) refl
    (adds_as all (omega (arith, few)) (text_parts t.prod0 t.k t.rows.now h))
    (search (rules, kept))
