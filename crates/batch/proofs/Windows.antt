-- The answers for all windows, one more at each turn. Assumes nothing.
use mathlib.Core.Path.{◌≡◌, sym, ap, ◌∙◌}
use mathlib.Core.List.{List, [], ◌∷◌, ◌++◌, append_assoc}
use Prim.Native.Nat.{ℕ, suc, ◌+◌, ◌<◌}
use native.Mathlib.Omega.{arith}
use lib.ListN.{length, set, take, drop, take-append-drop}
use native.Mathlib.Numerals.{add-one}
use native.Mathlib.Nat.{add-zero}
use lib.Seq.{take-suc-set, drop-set-lt}
use lib.IntN.{ℤ}
use Rattle.paper.specs.Answers.{Ruling, Chosen}
use Rattle.paper.specs.Batch.{answered, each_window}

module _ (f : List ℕ → Ruling Chosen) (k : ℕ) where
  -- the answer slice once n more windows are answered, of which i are
  abbrev pub once_done : List ℤ → List ℕ → ℕ → ℕ → List ℤ
  once_done l rest i n = take i l ++ (each_window f k n rest ++ drop (i + n) l)

  -- a turn: the next window's answer is put behind those that are there
  pub one_more : (l : List ℤ) (rest : List ℕ) (i n : ℕ) (z r : ℤ) → i < length l → z ≡ r → r ≡ answered (f (take k rest)) →
      once_done l rest i (suc n) ≡ once_done (set l i z) (drop k rest) (i + 1) n
  unfolding each_window
  one_more l rest i n z r h d e =
      let a : answered (f (take k rest)) ≡ z = sym e ∙ sym d in
      let b : take i l ++ (z ∷ []) ≡ take (i + 1) (set l i z) = rw (add-one i) (sym (take-suc-set l i z h)) in
      let m : i + suc n ≡ i + 1 + n = omega arith in
      let v : drop (i + suc n) l ≡ drop (i + 1 + n) (set l i z) =
      ap (λ (x : ℕ). drop x l) m ∙ sym (drop-set-lt (i + 1 + n) l i z (omega arith)) in
      let behind : List ℤ = each_window f k n (drop k rest) ++ drop (i + 1 + n) (set l i z) in
      rw (a, v) (sym (append_assoc (take i l) (z ∷ []) behind) ∙ ap (λ (x : List ℤ). x ++ behind) b)

  -- the end
  pub all_done : (l : List ℤ) (rest : List ℕ) (i : ℕ) → once_done l rest i 0 ≡ l
  unfolding each_window
  all_done l rest i = rw (add-zero i) (take-append-drop i l)
