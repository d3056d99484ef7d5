-- An answer that states a ruling hands that ruling over. Assumes nothing.
use mathlib.Core.Path.{◌≡◌, refl, ap, sym, ◌∙◌}
use mathlib.Core.Option.{Option}
use mathlib.Core.List.{List, ◌∷◌, []}
use Prim.Native.Nat.{ℕ, ◌<◌, ◌^◌}
use lib.ListN.{length}
use lib.IntN.{ℤ}
use lib.Signed.{mag}
use mir.Syntax.{w32}
use mir.Val.{to_z, of_z}
use Rattle.laws.proofs.RowNumbers.{accepting_signed}
use Rattle.paper.specs.declared.Refusal.{Refusal}
use Rattle.paper.specs.declared.Refusal.TheVariants as refusal
use Rattle.paper.specs.declared.Production.{Production}
use Rattle.std.specs.Prelude.{Result, Ok, Err}
use Rattle.paper.specs.declared.Heading.{Heading}
use Rattle.paper.specs.declared.Title.{Title}
use Rattle.paper.specs.declared.Prediction.{Prediction}
use Rattle.paper.specs.Rows.{Table, accepting, signed}
use Rattle.paper.specs.Answers.{Ruling, accept, refuse, then, number, detail, stated, predicted, Made, Makes, Reads, Writes}
use Rattle.rows.specs.Places.{code}
use Rattle.row_checks.specs.Verdicts.{Judges, whole}
use Rattle.rows.proofs.Signed.{back}
use Rattle.handed.specs.Handed.{
  returned,
  four,
  of_made,
  of_read,
  of_written,
  of_heading,
  of_title,
  of_prediction,
  of_chosen,
  of_count,
  table_checked,
  Hands,
  HandedTable,
  HandedRead,
  HandedWritten,
}

-- values by way of what an answer holds
hand_over : {A B : Type 0} (g : Ruling A) (x : Ruling B) (h : A → B) (f : A → List ℕ) (e : B → List ℕ) (r : ℕ)
    (answer : List ℕ) → x ≡ then g (λ a. accept (h a)) → ((a : A) → g ≡ accept a → e (h a) ≡ f a) →
    Hands x e r answer → Hands g f r answer
hand_over (accept a) x h f e r answer p q d =
    let i = rw p at d in
    record { says = i.says; holds = i.holds ∙ ap four (q a refl) }
hand_over (refuse n d) x h f e r answer p q s =
    let i = rw p at s in
    record { says = i.says; holds = i.holds }

-- prod0 as the machine reads it back
read_back : (p : Option ℕ) → mag (signed p) < 2 ^ 31 →
    accepting (to_z w32 (of_z w32 (signed p))) ≡ p
read_back p h = ap accepting (back (signed p) h) ∙ accepting_signed p

pub table_hands : (g : Ruling Made) (said : Result Heading Refusal) (old new : List ℤ) (r : ℕ) (answer : List ℕ) →
    ((m : Made) → g ≡ accept m → mag (signed m.table.prod0) < 2 ^ 31) → Makes g said old new →
    Hands (stated said) of_heading r answer → HandedTable g old new r answer
table_hands g said old new r answer small m h = record {
  hands = hand_over g (stated said) _ of_made of_heading r answer m.says (λ a e.
      ap (λ (p : Option ℕ). code p ∷ a.table.k ∷ length a.table.rows ∷ a.states ∷ [])
      (read_back a.table.prod0 (small a e))) h;
  holds = m.holds;
}

pub read_hands : (g : Ruling Table) (said : Result Title Refusal) (old new : List ℤ) (r : ℕ) (answer : List ℕ) →
    ((t : Table) → g ≡ accept t → mag (signed t.prod0) < 2 ^ 31) → Reads g said old new →
    Hands (stated said) of_title r answer → HandedRead g old new r answer
read_hands g said old new r answer small m h = record {
  hands = hand_over g (stated said) _ of_read of_title r answer m.says (λ t e.
      ap (λ (p : Option ℕ). code p ∷ t.k ∷ length t.rows ∷ []) (read_back t.prod0 (small t e))) h;
  holds = m.holds;
}

pub written_hands : {E : Type 0} (g : Ruling (List E)) (said : Result ℕ Refusal) (old new : List E) (r : ℕ) (answer : List ℕ) →
    Writes g said old new → Hands (stated said) of_count r answer → HandedWritten g old new r answer
written_hands g said old new r answer m h = record {
  hands = hand_over g (stated said) _ of_written of_count r answer m.says (λ b e. refl) h;
  holds = m.holds;
}

-- a prediction, whose production is a number to the definitions
pub prediction_hands : (said : Result Prediction Refusal) (r : ℕ) (answer : List ℕ)
    → Hands (stated said) of_prediction r answer → Hands (predicted said) of_chosen r answer
prediction_hands (Ok p) r answer h = record { says = h.says; holds = h.holds }
prediction_hands (Err f) r answer h = record { says = h.says; holds = h.holds }

-- ---- the checks alone
module _ {A : Type 0} (p : ℤ) (k : ℕ) (ns : List ℤ) where
  pub checked_refused : (f : Refusal) (r : ℕ) → Judges {A = A} (whole p k ns) (Err f) → r ≡ number f →
      r ≡ returned (table_checked p k ns)
  checked_refused f r j n = n ∙ sym (ap returned j.says)

  pub checked_passed : (a : A) → Judges (whole p k ns) (Ok a) → 0 ≡ returned (table_checked p k ns)
  checked_passed a j = sym (ap returned j.says)
