-- From what is written to what `tabrep` prints. Assumes nothing.
use Prim.Native.Nat.{ℕ, ◌<◌, ◌≤◌}
use mathlib.Core.Path.{refl, ◌≡◌, ap, sym, ◌∙◌}
use mathlib.Core.List.{List, [], ◌++◌}
use native.Mathlib.Omega.{arith}
use borrow.Author.Tests.{lt-ltb, le-ltb}
use lib.ListN.{length, drop, length-append}
use lib.Seq.{length-take-le}
use Rattle.paper.specs.Answers.{Ruling, accept, refuse}
use Rattle.paper.specs.Tabrep.{tabrep, report, printed}
use Rattle.text_laws.specs.Put.{Puts}
use Rattle.text_laws.proofs.Put.{put_front}
use Rattle.report.specs.Rulings.{Prints, of_table, of_text}

module _ {old new a b : List ℕ} {room n : ℕ} where
  pub prints : Puts old 0 room a new n → a ≡ b → Prints b old new n
  prints w e =
      let size : n ≡ length b = omega (arith, w.place, ap length e) in
      let front : new ≡ b ++ drop (length b) old = w.holds ∙ put_front old a ∙ rw e in
      let within : n ≤ length new = omega (arith, ap length front, length-append b (drop (length b) old)) in
      record {
        count = size;
        holds = rw (← size) at front;
        within = within;
        part = sym (length-take-le n new within);
      }

pub printed_lines : {r : Ruling (List ℕ)} {b : List ℕ} → r ≡ accept b → b ≡ printed r
unfolding printed
printed_lines e = rw e

pub printed_refusal : {r : Ruling (List ℕ)} {n : ℕ} {d : List ℕ} → r ≡ refuse n d → printed (refuse n d) ≡ printed r
printed_refusal e = ap printed (sym e)

pub printed_report : (input : List ℕ) → printed (report input) ≡ tabrep input
unfolding tabrep
printed_report input = refl

module _ (input : List ℕ) where
  pub too_long : 65536 < length input → refuse 1 [] ≡ report input
  unfolding report
  too_long h = rw (lt-ltb 65536 (length input) h)

  pub by_text : length input ≤ 65536 → of_text input ≡ report input
  unfolding report of_text of_table
  by_text h = rw (le-ltb 65536 (length input) h)
