-- What text out answers, check by check. Assumes nothing.
use Prim.Native.Nat.{ℕ, ◌<◌, ◌≤◌}
use mathlib.Core.Path.{◌≡◌, ap, sym, ◌∙◌}
use mathlib.Core.Bool.{true, false}
use mathlib.Core.List.{List, [], ◌∷◌, ◌++◌, append_assoc}
use native.Mathlib.Omega.{arith}
use borrow.Author.Tests.{lt-ltb, le-ltb}
use lib.ListN.{length}
use lib.IntN.{ℤ, pos}
use Rattle.std.specs.Prelude.{Ok, Err}
use Rattle.paper.specs.Rows.{table, rows_in, accepting, signed}
use Rattle.paper.specs.Answers.{Ruling, accept, refuse, number, detail, Writes}
use Rattle.paper.specs.Checks.{every, row_fits, row_slice, range, plain}
use Rattle.paper.specs.Text.{text, text_out, write, head_form}
use Rattle.paper.specs.declared.Refusal.{Refusal}
use Rattle.laws.proofs.Writing as writing
use Rattle.laws.proofs.Refusals.{refuse_accept}
use Rattle.rows.proofs.Rest.{by_test}
use Rattle.rows.specs.Places.{code}
use Rattle.row_checks.specs.Verdicts.{sized, Judges, Passes}
use Rattle.row_checks.proofs.Judged.{judged, passing, bounded, rows_fit}
use Rattle.text_laws.specs.Written.{head_text, rows_text}
use Rattle.text_laws.proofs.Put.{put_front}
use Rattle.text_laws.proofs.Kept.{production_kept, lines_kept}
use Rattle.text_out.specs.declared.writing.Writer.{Writer}
use Rattle.text_out.specs.Added.{Adds}

-- what was put at the front was written, in the slice that the writer still holds
pub written : {ruling : Ruling (List ℕ)} {t new : List ℕ} {a b : Writer} {room : ℕ} → ruling ≡ accept t → a.at ≡ 0
    → Adds a b room t → new ≡ b.out.now → Writes ruling (Ok b.at) a.out.now new
written {ruling} {t} {a = a} {b = b} e z p q =
    let m : b.at ≡ length t = omega (arith, p.place) in
    rw m (writing.written e (q ∙ p.holds ∙ rw z (put_front a.out.now t)))

module _ (p : ℤ) (k : ℕ) (ns : List ℤ) (room : ℕ) where
  pub out_sized : {A : Type 0} (f : Refusal) → Judges {A = A} (sized ns) (Err f)
      → text_out p k ns room ≡ refuse (number f) (detail f)
  unfolding text_out
  out_sized f j =
      let q = judged (accept (text p k ns)) j in
      by_test (row_slice ns) (λ e. rw e (rw e at q)) (λ e. refuse_accept (sym (rw e at q)))

  module _ (whole : row_slice ns ≡ false) where
    pub out_room : room < 262144 → text_out p k ns room ≡ refuse 1 []
    unfolding text_out
    out_room h = rw (whole, lt-ltb room 262144 h)

    module _ (wide : 262144 ≤ room) where
      pub out_refused : {A : Type 0} (f : Refusal) → Judges {A = A} (plain (table p k ns)) (Err f)
          → text_out p k ns room ≡ refuse (number f) (detail f)
      unfolding text_out
      out_refused f j = rw (whole, le-ltb room 262144 wide) (judged (accept (text p k ns)) j)

      pub out_text : Passes (plain (table p k ns)) → text_out p k ns room ≡ accept (text p k ns)
      unfolding text_out
      out_text j = rw (whole, le-ltb room 262144 wide) (passing (accept (text p k ns)) j)

-- what a table within its bounds is
pub record Ranged (p : ℤ) (k : ℕ) (ns : List ℤ) : Type 0 where
  pub prod0 : code (accepting p) ≤ 65536
  pub few : k ≤ 16
  pub rows : every row_fits (rows_in ns) ≡ true

pub in_range : (p : ℤ) (k : ℕ) (ns : List ℤ) → range (table p k ns) ≡ false → Ranged p k ns
in_range p k ns e =
    let b = bounded (table p k ns) e in record { prod0 = b.prod0; few = b.k; rows = rows_fit (table p k ns) e }

-- the head and the lines are the text
pub text_parts : (p : ℤ) (k : ℕ) (ns : List ℤ) → Ranged p k ns →
    head_text (signed (accepting p)) k ++ rows_text (rows_in ns) ≡ text p k ns
unfolding head_text text
text_parts p k ns h =
    let w = write head_form (p ∷ pos k ∷ []) in
    ap (λ (z : ℤ). (write head_form (z ∷ pos k ∷ []) ++ (10 ∷ [])) ++ rows_text (rows_in ns)) (production_kept p h.prod0)
    ∙ append_assoc w (10 ∷ []) (rows_text (rows_in ns))
    ∙ ap (λ (x : List ℕ). w ++ (10 ∷ x)) (lines_kept ns h.rows)
