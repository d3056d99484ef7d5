-- Demand 3, for lists within bounds with at most 1,024 distinct beginnings. Assumes nothing.
use mathlib.Core.Path.{◌≡◌, refl, sym, ◌∙◌}
use mathlib.Core.List.{List, ◌∷◌}
use Prim.Native.Nat.{ℕ, ◌≤◌}
use native.Mathlib.Omega.{arith}
use lib.ListN.{length}
use Rattle.paper.specs.declared.Mode.TheVariants.{Intake}
use Rattle.paper.specs.Rows.{Table}
use Rattle.paper.specs.Answers.{Ruling, then, Made}
use Rattle.paper.specs.Shrink.{shrunk}
use Rattle.paper.specs.Lists.{Opening, longest}
use Rattle.merging.specs.Reach.{reaches, reaches_from}
use Rattle.merging.proofs.Promises.{shrunk_reaches, shrunk_intake_unlike, shrunk_prod0, shrunk_k, shrunk_order}
use Rattle.merging.proofs.Promises.{shrunk_range, shrunk_rows_le, shrunk_reached, shrunk_below}
use Rattle.trees.specs.Reach.{view, reach}
use Rattle.trees.specs.Says.{Says}
use Rattle.trees.specs.Chain.{UnitedLists, Chained, united, Reordered}
use Rattle.trees.specs.Chain as chains
use Rattle.trees.proofs.Paths.{view_by_steps}
use Rattle.trees.proofs.Defined.{predict_defined}
use Rattle.trees.proofs.Calls.{sound_size, shrink_accepts}
use Rattle.trees.proofs.Tells.{stands_more}
use Rattle.trees.proofs.Chained.{chain_good}
use Rattle.trees.proofs.Reordering.{longest_same, beginnings_same, foretold_same}
use Rattle.promises.specs.Demand.{shrink_made, calls, Kept, Demanded, kept, clashed}
use Rattle.promises.specs.Demand.{SameAnswers, both_kept, both_clashed, Demand3, AnyOrder}

-- a table's view is what its strings reach
pub view_reaches : (t : Table) (σ : List ℕ) → view t σ ≡ reaches t σ
unfolding view reach reaches reaches_from
view_reaches t σ = view_by_steps t.rows (reaches_from t.rows)
    (λ s p. refl) (λ s p u us e. rw (e, reaches_from)) (λ s p u us r e. rw (e, reaches_from)) σ 0 t.prod0

shrunk_kept : (ls : List Opening) (m : Made) → UnitedLists ls m → Kept ls (shrunk Intake m.table)
shrunk_kept ls m u =
    let t = m.table in
    let h = u.sound.treed in
    let s = (shrunk Intake t).table in
    let says : Says s ls = λ σ.
    view_reaches s σ ∙ shrunk_reaches t h.shaped h.whole σ ∙ sym (view_reaches t σ) ∙ u.says σ in
    let k = shrunk_k Intake t ∙ u.longest in
    let few : length s.rows ≤ 4096 = omega (arith, shrunk_rows_le Intake t h.shaped, sound_size t u.sound) in
    record {
      one_number = u.one_number;
      longest_k = k;
      counted = shrunk_below Intake t h.shaped;
      reached = shrunk_reached t h.ordered h.shaped h.held h.whole;
      unlike = rw (shrunk_prod0 Intake t)
          (shrunk_intake_unlike t h.ordered h.shaped h.held h.whole);
      predicts = predict_defined ls s says k (shrunk_range Intake t u.sound.ranged h.shaped)
          (shrunk_order Intake t h.ordered h.shaped) few;
    }

pub demand3 : Demand3
unfolding calls shrink_made
demand3 l ls w = go (chain_good l ls w.bounded w.few)
  where
    go : {g : Ruling Made} → Chained (l ∷ ls) g → Demanded (l ∷ ls) (then g shrink_made)
    go (united {m} u) = rw (shrink_accepts Intake m.table u.sound) (kept (shrunk_kept (l ∷ ls) m u))
    go (chains.clashed c) = clashed c

-- ---- the order
same_answers : (ls ls' : List Opening) → Reordered ls ls' → {g g' : Ruling Made} → Demanded ls g → Demanded ls' g' →
    SameAnswers (longest ls) g g'
same_answers ls ls' o (kept {m} a) (kept {m = m'} b) =
    let k : longest ls ≡ longest ls' = longest_same ls ls' o in
    both_kept (λ stream tokens h l.
    a.predicts stream tokens h l ∙ foretold_same ls ls' o a.one_number tokens
    ∙ sym (b.predicts stream tokens (omega arith) (omega arith)))
same_answers ls ls' o (kept a) (clashed {p} {q} c) = absurd (c.differ (a.one_number c.string p q
    (stands_more ls' ls o.back c.string p c.first) (stands_more ls' ls o.back c.string q c.second)))
same_answers ls ls' o (clashed {p} {q} c) (kept b) = absurd (c.differ (b.one_number c.string p q
    (stands_more ls ls' o.there c.string p c.first) (stands_more ls ls' o.there c.string q c.second)))
same_answers ls ls' o (clashed c) (clashed c') = both_clashed

pub any_order : AnyOrder
any_order l ls l' ls' o w = same_answers (l ∷ ls) (l' ∷ ls') o (demand3 l ls w) (demand3 l' ls' (record {
  bounded = λ m i. w.bounded m (o.back m i);
  few = omega (arith, w.few, beginnings_same (l ∷ ls) (l' ∷ ls') o);
}))
