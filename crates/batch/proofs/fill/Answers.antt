use mathlib.Core.Path.{◌≡◌, sym, ap, ◌∙◌}
use Prim.Native.Nat.{ℕ, suc, ◌+◌, ◌-◌}
use native.Mathlib.Omega.{arith}
use native.Mathlib.Nat.{zero-add}
use mathlib.Core.List.{List}
use lib.ListN.{length, set, drop, length-set}
use lib.Seq.{drop-drop}
use mir.Syntax.{w32}
use mir.Val.{to_z, of_z}
use Rattle.paper.specs.Rows.{table}
use Rattle.rows.proofs.Signed.{back}
use Rattle.predict.specs.Checked.{checked}
use Rattle.batch.proofs.Counts.{next_place}
use Rattle.batch.proofs.Windows.{once_done, one_more, all_done}
use Rattle.batch.proofs.fill.Goals as goal

pub loop-i-preserved : goal.loop-i-preserved
loop-i-preserved c =
    let v = c.loop-i.invariant in
    let t = c.args.lent.table in
    let k = t.k in
    let i = c.loop-i.i in
    let m = c.args.count - (i + 1) in
    let n : c.args.count - i ≡ suc m = omega arith in
    let z = to_z w32 (of_z w32 c.window.result) in
    let f = checked c.args.mode (table t.prod0 k t.rows.now) c.args.stream in (
      next_place c.args.count i k c.loop-i.at (length c.args.tokens.now) (omega arith) v.0 c.requires.0,
      length-set c.loop-i.answers i z ∙ v.1,
      v.2
          ∙ ap (once_done f k c.loop-i.answers (drop c.loop-i.at c.args.tokens.now) i) n
          ∙ one_more f k c.loop-i.answers (drop c.loop-i.at c.args.tokens.now) i m z
          c.window.result (omega (arith, v.1)) (back c.window.result c.window.type_inv) c.window.ensures
          ∙ ap (λ (rest : List ℕ). once_done f k (set c.loop-i.answers i z) rest (i + 1) m)
          (drop-drop k c.loop-i.at c.args.tokens.now),
    )

pub returns : goal.returns
returns c =
    let t = c.args.lent.table in
    let n : c.args.count - c.loop-i.i ≡ 0 = omega arith in
    let f = checked c.args.mode (table t.prod0 t.k t.rows.now) c.args.stream in
    let e = c.loop-i.invariant.2
    ∙ ap (once_done f t.k c.loop-i.answers (drop c.loop-i.at c.args.tokens.now) c.loop-i.i) n
    ∙ all_done f t.k c.loop-i.answers (drop c.loop-i.at c.args.tokens.now) c.loop-i.i in
    sym (rw zero-add at e)
