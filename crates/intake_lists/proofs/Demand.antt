-- Demand 3 for the call: its contract says that the answer and the output are what `table_of` rules, and of lists
-- within document 01's bounds with at most 1,024 distinct beginnings that ruling is what demand 3 asks.
-- Assumes nothing.
use mathlib.Core.Path.{refl}
use mathlib.Core.List.{List, [], ◌∷◌}
use Prim.Native.Nat.{ℕ, ◌*◌, ◌≤◌}
use lib.ListN.{length, take}
use lib.IntN.{ℤ}
use Rattle.laws.proofs.RowNumbers.{accepting_signed, rows_numbers}
use Rattle.laws.proofs.Refusals.{refuse_accept}
use Rattle.paper.specs.declared.Production.{Production}
use Rattle.paper.specs.declared.Refusal.TheVariants as refusal
use Rattle.std.specs.Prelude.{Result, Ok, Err}
use Rattle.paper.specs.declared.Heading.{Heading}
use Rattle.paper.specs.declared.Refusal.{Refusal}
use Rattle.paper.specs.Answers.{Ruling, accept, refuse, Made, Makes}
use Rattle.paper.specs.Lists.{Opening, longest}
use Rattle.trees.specs.Bounds.{Within}
use Rattle.trees.specs.Chain.{Reordered}
use Rattle.promises.specs.Demand as demand
use Rattle.promises.specs.Demand.{Kept, Demanded, kept, SameAnswers}
use Rattle.promises.proofs.Demanded.{demand3, any_order}
use Rattle.promises.proofs.Identical.{makes_one}
use Rattle.intake_lists.specs.Lends.{call_of}
use Rattle.intake_lists.specs.Answered.{Serves, Answered, served, clashed}
use Rattle.intake_lists.proofs.Kept.{front, same_prod0, same_k, same_states}
use Rattle.intake_lists.proofs.Lends.{call_calls}

-- The call is refused only by 8, exactly when one string stands under two production numbers; otherwise each state
-- of the shrunk table is reached, no two are alike, and intake predict gives what the lists define.
pub intake_demand3 : (l : Opening) (ls : List Opening) → Within (l ∷ ls) → (room : ℕ) → 16384 ≤ room →
    Demanded (l ∷ ls) (call_of (l ∷ ls) room)
intake_demand3 l ls w room h = rw (call_calls l ls room h) (demand3 l ls w)

-- The order of the lists changes no answer.
pub intake_any_order : (l : Opening) (ls : List Opening) (l' : Opening) (ls' : List Opening) →
    Reordered (l ∷ ls) (l' ∷ ls') → Within (l ∷ ls) → (room room' : ℕ) → 16384 ≤ room → 16384 ≤ room' →
    SameAnswers (longest (l ∷ ls)) (call_of (l ∷ ls) room) (call_of (l' ∷ ls') room')
intake_any_order l ls l' ls' o w room room' h h' =
    rw (call_calls l ls room h, call_calls l' ls' room' h') (any_order l ls l' ls' o w)

-- ---- of any answer that the contract allows
serves : (ls : List Opening) (m : Made) → Kept ls m → (p : ℤ) (k n s : ℕ) (old new : List ℤ) →
    Makes (accept m) (Ok (record { prod0 = p; k = k; rows = n; states = s })) old new → Serves ls p k (take (n * 4) new) s
serves ls m h p k n s old new c =
    rw (front m p k n s old new c, same_prod0 m p k n s old new c)
    (rw (same_k m p k n s old new c, same_states m p k n s old new c) (record {
      one_number = h.one_number;
      longest_k = h.longest_k;
      counted = rw (rows_numbers m.table.rows) h.counted;
      reached = rw (rows_numbers m.table.rows) h.reached;
      unlike = rw (accepting_signed m.table.prod0, rows_numbers m.table.rows) h.unlike;
      predicts = h.predicts;
    }))

answers : (ls : List Opening) {g : Ruling Made} → Demanded ls g → (r : Result Heading Refusal) (old new : List ℤ) →
    Makes g r old new → Answered ls old new r
answers ls (kept {m} h) (Ok x) old new c =
    served (serves ls m h x.prod0 x.k x.rows x.states old new c)
answers ls (kept {m} h) (Err f) old new c = refuse_accept c.says
answers ls (demand.clashed {p} {q} h) r old new c =
    let a : Production = record { 0 = p } in
    let b : Production = record { 0 = q } in
    let told : Makes (refuse 8 (p ∷ q ∷ [])) (Err (refusal.Clash a b)) old old =
    record { says = refl; holds = refl } in
    let (e, f) = makes_one (refuse 8 (p ∷ q ∷ [])) old r (Err (refusal.Clash a b)) new old c told in
    rw e (clashed h f)

pub intake_answers : (l : Opening) (ls : List Opening) → Within (l ∷ ls) → (r : Result Heading Refusal) (old new : List ℤ) →
    16384 ≤ length old → Makes (call_of (l ∷ ls) (length old)) r old new → Answered (l ∷ ls) old new r
intake_answers l ls w r old new h c =
    answers (l ∷ ls) (intake_demand3 l ls w (length old) h) r old new c
