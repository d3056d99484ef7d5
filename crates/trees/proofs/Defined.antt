-- For a table whose view says what the lists say, intake predict gives what the lists define. Assumes nothing.
use mathlib.Core.Path.{◌≡◌, refl, sym, ◌∙◌, ap, ap₂}
use mathlib.Core.Bool.{Bool, true, false, cond}
use mathlib.Core.Option.{Option, none, some}
use mathlib.Core.List.{List, [], ◌∷◌, ◌++◌, reverse, reverse-reverse, reverse-append, reverse-cons}
use Prim.Native.Nat.{ℕ, zero, suc, ◌≤◌}
use native.Mathlib.Omega.{arith}
use lib.ListN.{length, take, length-reverse}
use lib.Seq.{take_all, take-append-le}
use lib.Dec.{ltb}
use borrow.Author.Tests.{le-ltb}
use Rattle.paper.specs.declared.Mode.TheVariants.{Intake}
use Rattle.laws.proofs.RowNumbers.{table_numbers, slice_numbers}
use Rattle.paper.specs.Rows.{Table, signed, numbers}
use Rattle.paper.specs.Answers.{accept, then}
use Rattle.paper.specs.Checks.{range, order}
use Rattle.paper.specs.Predict.{or_else, chosen, predict_table, predict}
use Rattle.paper.specs.Lists.{Opening, begins_some, stands_under, become, longest_within, longest, or_none, defined}
use Rattle.trees.specs.Reach.{Word}
use Rattle.trees.specs.Says.{told, Says, foretold}
use Rattle.trees.proofs.Paths.{word, view_word}
use Rattle.trees.proofs.Predicts.{claim, advance, travel, best, told_of, chosen_is}
use Rattle.trees.proofs.ListTests.{under_begins}

reverse_snoc : (p : List ℕ) (t : ℕ) → reverse (p ++ (t ∷ [])) ≡ t ∷ reverse p
reverse_snoc p t = reverse-append p (t ∷ [])

-- D says of a beginning, its last token first, what the lists say.
module _ (ls : List Opening) (D : List ℕ → Word) (says : (v : List ℕ) → D v ≡ told ls (reverse v)) where
  advance_is : (p : List ℕ) (t : ℕ) →
      advance (reverse p) t (D (t ∷ reverse p)) ≡ reverse (cond (begins_some ls (p ++ (t ∷ []))) (p ++ (t ∷ [])) p)
  unfolding advance told
  advance_is p t =
      let back : reverse (t ∷ reverse p) ≡ p ++ (t ∷ []) =
      ap reverse (sym (reverse_snoc p t)) ∙ reverse-reverse (p ++ (t ∷ [])) in
      ap (advance (reverse p) t) (says (t ∷ reverse p) ∙ ap (told ls) back) ∙ go (begins_some ls (p ++ (t ∷ [])))
    where
      go : (b : Bool) → advance (reverse p) t (cond b (some (stands_under ls (p ++ (t ∷ [])))) none)
          ≡ reverse (cond b (p ++ (t ∷ [])) p)
      go true = sym (reverse_snoc p t)
      go false = refl

  travel_is : (ts p : List ℕ) → travel D (reverse p) ts ≡ reverse (become ls p ts)
  unfolding travel become
  travel_is [] p = refl
  travel_is (t ∷ ts) p =
      ap (λ (z : List ℕ). travel D z ts) (advance_is p t)
      ∙ travel_is ts (cond (begins_some ls (p ++ (t ∷ []))) (p ++ (t ∷ [])) p)

  claim_is : (v : List ℕ) → claim (D v) ≡ stands_under ls (reverse v)
  unfolding claim told
  claim_is v = ap claim (says v) ∙ go (begins_some ls (reverse v)) refl
    where
      go : (b : Bool) → begins_some ls (reverse v) ≡ b →
          claim (cond b (some (stands_under ls (reverse v))) none) ≡ stands_under ls (reverse v)
      go true e = refl
      go false e = sym (under_begins ls (reverse v) e)

  within_front : (p r : List ℕ) (n : ℕ) → n ≤ length p → longest_within ls (p ++ r) n ≡ longest_within ls p n
  unfolding longest_within
  within_front p r zero l = refl
  within_front p r (suc n) l =
      ap₂ or_else (ap (stands_under ls) (take-append-le (suc n) p r l)) (within_front p r n (omega arith))

  best_is : (v : List ℕ) → best D v ≡ longest_within ls (reverse v) (length v)
  unfolding best longest_within
  best_is [] = claim_is []
  best_is (t ∷ v) =
      let whole : take (suc (length v)) (reverse (t ∷ v)) ≡ reverse (t ∷ v) =
      take_all (suc (length v)) (reverse (t ∷ v)) (omega (arith, length-reverse (t ∷ v))) in
      let front : longest_within ls (reverse v) (length v) ≡ longest_within ls (reverse (t ∷ v)) (length v) =
      sym (within_front (reverse v) (t ∷ []) (length v) (omega (arith, length-reverse v)))
      ∙ ap (λ (z : List ℕ). longest_within ls z (length v)) (sym (reverse-cons t v)) in
      ap₂ or_else (claim_is (t ∷ v) ∙ ap (stands_under ls) (sym whole)) (best_is v ∙ front)

told_is : (o : Option ℕ) (n : ℕ) →
    told_of o n ≡ then (or_none o) (λ q. accept (record { production = q; entered = n }))
unfolding told_of or_none
told_is none n = refl
told_is (some q) n = refl

pub chosen_defined : (ls : List Opening) (t : Table) → Says t ls → t.k ≡ longest ls → (tokens : List ℕ) →
    chosen Intake t tokens ≡ foretold ls tokens
unfolding defined
chosen_defined ls t says k tokens =
    let words : (v : List ℕ) → word t v ≡ told ls (reverse v) = λ v.
    sym (view_word t (reverse v) ∙ ap (word t) (reverse-reverse v)) ∙ says (reverse v) in
    let p : List ℕ = become ls [] (take (longest ls) tokens) in
    let way : travel (word t) [] (take t.k tokens) ≡ reverse p =
    ap (λ (n : ℕ). travel (word t) [] (take n tokens)) k
    ∙ travel_is ls (word t) words (take (longest ls) tokens) [] in
    let prize : best (word t) (reverse p) ≡ longest_within ls p (length p) =
    best_is ls (word t) words (reverse p) ∙ ap₂ (longest_within ls) (reverse-reverse p) (length-reverse p) in
    chosen_is t tokens ∙ ap (λ (v : List ℕ). told_of (best (word t) v) (length v)) way
    ∙ ap₂ told_of prize (length-reverse p) ∙ told_is (longest_within ls p (length p)) (length p)

-- The call: on k or more tokens, in a stream whose own k is no smaller.
pub predicts_defined : (ls : List Opening) (t : Table) → Says t ls → t.k ≡ longest ls → range t ≡ false →
    order t ≡ false → (stream : ℕ) (tokens : List ℕ) → longest ls ≤ stream → longest ls ≤ length tokens →
    predict_table Intake t stream tokens ≡ foretold ls tokens
unfolding predict_table
predicts_defined ls t says k ranged ordered stream tokens h l =
    let no_mismatch : ltb stream t.k ≡ false = le-ltb stream t.k (omega arith) in
    let no_short : ltb (length tokens) t.k ≡ false = le-ltb (length tokens) t.k (omega arith) in
    rw (ranged, ordered, no_mismatch, no_short) (chosen_defined ls t says k tokens)

-- The same of the table's numbers.
pub predict_defined : (ls : List Opening) (t : Table) → Says t ls → t.k ≡ longest ls → range t ≡ false →
    order t ≡ false → length t.rows ≤ 4096 → (stream : ℕ) (tokens : List ℕ) → longest ls ≤ stream →
    longest ls ≤ length tokens →
    predict Intake (signed t.prod0) t.k (numbers t.rows) stream tokens ≡ foretold ls tokens
unfolding predict
predict_defined ls t says k ranged ordered few stream tokens h l =
    rw (slice_numbers t.rows few, table_numbers t) (predicts_defined ls t says k ranged ordered stream tokens h l)
