-- What batch answers, check by check. Assumes nothing.
use mathlib.Core.Path.{◌≡◌, refl, sym, ap, subst, ◌∙◌}
use mathlib.Core.Bool.{true, false}
use mathlib.Core.List.{List, [], ◌∷◌, ◌++◌}
use Prim.Native.Nat.{ℕ, zero, suc, ◌<◌, ◌≤◌}
use borrow.Author.Tests.{lt-ltb, le-ltb}
use lib.Dec.{ltb}
use lib.ListN.{length, take, drop}
use lib.IntN.{ℤ}
use Rattle.paper.specs.declared.Mode.{Mode}
use Rattle.paper.specs.declared.Refusal.{Refusal}
use Rattle.std.specs.Prelude.{Result, Ok, Err}
use Rattle.paper.specs.Rows.{table}
use Rattle.paper.specs.Answers.{Ruling, accept, refuse, number, detail, Chosen, Writes}
use Rattle.paper.specs.Checks.{first, row_slice, plain}
use Rattle.paper.specs.Predict.{predict}
use Rattle.laws.proofs.Writing as writing
use Rattle.row_checks.specs.Verdicts.{Judges, follow}
use Rattle.row_checks.proofs.Judged.{judged, next_check}
use Rattle.predict.specs.Checked.{checked}
use Rattle.predict.proofs.Parts.{after_checks}
use Rattle.paper.specs.Batch.{each_window, window_lengths, batch}

-- an answer for each window, and no more
answers_count : (f : List ℕ → Ruling Chosen) (k n : ℕ) (ts : List ℕ) → length (each_window f k n ts) ≡ n
unfolding each_window
answers_count f k zero ts = refl
answers_count f k (suc n) ts = ap suc (answers_count f k n (drop k ts))

-- two ways to answer that agree on each window
agreeing : (f g : List ℕ → Ruling Chosen) → ((w : List ℕ) → f w ≡ g w) → (k n : ℕ) (ts : List ℕ) →
    each_window f k n ts ≡ each_window g k n ts
unfolding each_window
agreeing f g e k zero ts = refl
agreeing f g e k (suc n) ts = rw (e (take k ts), agreeing f g e k n (drop k ts))

module _ (mode : Mode) (p : ℤ) (k : ℕ) (ns : List ℤ) (stream count : ℕ) (ts : List ℕ) (room : ℕ) where
  pub refused_slice : row_slice ns ≡ true → batch mode p k ns stream count ts room ≡ refuse 1 []
  unfolding batch
  refused_slice e = rw e

  module _ (whole : row_slice ns ≡ false) where
    pub refused_lengths : window_lengths k count (length ts) room ≡ true →
        batch mode p k ns stream count ts room ≡ refuse 1 []
    unfolding batch
    refused_lengths e = rw (whole, e)

    module _ (fit : window_lengths k count (length ts) room ≡ false) where
      -- after 1: the verdict of 2 and 3, then 9
      after_1 : {A : Type 0} (v : Result A Refusal) → Judges (plain (table p k ns)) v →
          follow v (first ((ltb stream k, 9) ∷ []) (accept (each_window (predict mode p k ns stream) k count ts)))
          ≡ batch mode p k ns stream count ts room
      unfolding batch
      after_1 v j = sym (judged _ j) ∙ rw (whole, fit)

      pub refused_table : {A : Type 0} (f : Refusal) → Judges {A = A} (plain (table p k ns)) (Err f) →
          batch mode p k ns stream count ts room ≡ refuse (number f) (detail f)
      refused_table f j = sym (after_1 (Err f) j)

      module _ {A : Type 0} (a : A) (passed : Judges (plain (table p k ns)) (Ok a)) where
        pub refused_stream : stream < k → batch mode p k ns stream count ts room ≡ refuse 9 []
        refused_stream h = sym (after_1 (Ok a) passed) ∙ rw (lt-ltb stream k h)

        accepted : k ≤ stream → batch mode p k ns stream count ts room
            ≡ accept (each_window (checked mode (table p k ns) stream) k count ts)
        accepted h =
            sym (after_1 (Ok a) passed)
            ∙ rw (le-ltb stream k h)
            (ap accept (sym (agreeing (checked mode (table p k ns) stream) (predict mode p k ns stream)
            (λ w. after_checks mode p k ns stream w (Ok a) (next_check whole passed)) k count ts)))

        pub written : (old new : List ℤ) → k ≤ stream
            → new ≡ each_window (checked mode (table p k ns) stream) k count ts ++ drop count old
            → Writes (batch mode p k ns stream count ts room) (Ok count) old new
        written old new h e =
            let t = each_window (checked mode (table p k ns) stream) k count ts in
            let n = answers_count (checked mode (table p k ns) stream) k count ts in
            subst (λ (c : ℕ). Writes (batch mode p k ns stream count ts room) (Ok c) old new) n
            (writing.written (accepted h) (e ∙ ap (λ (c : ℕ). t ++ drop c old) (sym n)))
