-- Rows written into an output: none, one, and some after others.
-- Assumes room for them.
use mathlib.Core.Path.{◌≡◌, refl, sym, ap, ◌∙◌}
use mathlib.Core.Option.{Option}
use mathlib.Core.List.{List, [], ◌∷◌, ◌++◌, append_assoc, append-nil}
use Prim.Native.Nat.{ℕ, ◌+◌, ◌*◌, ◌≤◌}
use native.Mathlib.Omega.{arith}
use lib.ListN.{length, take, drop, length-append, length-set, take-append-drop}
use lib.Seq.{take_at, drop_at, drop-drop, length-take-le}
use lib.IntN.{ℤ, pos}
use Rattle.laws.proofs.RowNumbers.{length_numbers, numbers_append}
use Rattle.paper.specs.Rows.{Row, signed, numbers}
use Rattle.rows.specs.Places.{four}
use Rattle.rows.proofs.Four.{four_is}
use Rattle.shrink_rows.specs.Output.{Written}

pub written_none : (old : List ℤ) (at : ℕ) → Written old old at at []
written_none old at = record {
  ends = omega arith;
  front = sym (append-nil (take (at * 4) old));
  back = refl;
  sized = refl;
}

written_one : (old new : List ℤ) (at : ℕ) (r : Row) → at * 4 + 4 ≤ length old
    → new ≡ four old (at * 4) (pos r.from) (pos r.terminal) (pos r.to) (signed r.production)
    → Written old new at (at + 1) (r ∷ [])
written_one old new at r h e =
    let i = at * 4 in
    let vs : List ℤ = numbers (r ∷ []) in
    let s : new ≡ (take i old ++ vs) ++ drop (i + 4) old =
    e ∙ four_is old i _ _ _ _ h ∙ sym (append_assoc (take i old) vs (drop (i + 4) old)) in
    let n : length (take i old ++ vs) ≡ (at + 1) * 4 =
    omega (arith, length-append (take i old) vs, length-take-le i old (omega arith)) in
    let m : i + 4 ≡ (at + 1) * 4 = omega arith in
    record {
      ends = omega arith;
      front = ap (take ((at + 1) * 4)) s ∙ take_at (take i old ++ vs) (drop (i + 4) old) ((at + 1) * 4) n;
      back = ap (drop ((at + 1) * 4)) s ∙ drop_at (take i old ++ vs) (drop (i + 4) old) ((at + 1) * 4) n
          ∙ ap (λ (x : ℕ). drop x old) m;
      sized = ap length e ∙ simp length-set;
    }

-- the same of a row whose numbers were read
pub written_row : (old new : List ℤ) (at : ℕ) (r : Row) (f t g : ℕ) (p : Option ℕ) → at * 4 + 4 ≤ length old
    → f ≡ r.from → t ≡ r.terminal → g ≡ r.to → p ≡ r.production
    → new ≡ four old (at * 4) (pos f) (pos t) (pos g) (signed p) → Written old new at (at + 1) (r ∷ [])
written_row old new at r f t g p h e₁ e₂ e₃ e₄ e = written_one old new at r h
    (e ∙ (λ i. four old (at * 4) (pos (e₁ i)) (pos (e₂ i)) (pos (e₃ i)) (signed (e₄ i))))

module _ {a b c : List ℤ} {at mid end : ℕ} {xs ys : List Row} (v : Written a b at mid xs) (w : Written b c mid end ys)
  where
    -- what follows the second follows the first too
    drop_more : (n : ℕ) → drop (mid * 4 + n) b ≡ drop (mid * 4 + n) a
    drop_more n = drop_on (mid * 4) n b ∙ ap (drop n) v.back ∙ sym (drop_on (mid * 4) n a)
      where
        drop_on : (i j : ℕ) (l : List ℤ) → drop (i + j) l ≡ drop j (drop i l)
        drop_on i j l = sym (drop-drop j i l)

    pub written_more : Written a c at end (xs ++ ys)
    written_more =
        let e : end * 4 ≡ mid * 4 + length ys * 4 = omega (arith, w.ends) in
        record {
          ends = omega (arith, v.ends, w.ends, length-append xs ys);
          front = w.front ∙ ap (λ (l : List ℤ). l ++ numbers ys) v.front
              ∙ append_assoc (take (at * 4) a) (numbers xs) (numbers ys)
              ∙ ap (λ (l : List ℤ). take (at * 4) a ++ l) (sym (numbers_append xs ys));
          back = w.back ∙ rw e (drop_more (length ys * 4));
          sized = w.sized ∙ v.sized;
        }

-- what an output holds once rows stand at its front
pub written_front : (old new : List ℤ) (n : ℕ) (xs : List Row) → Written old new 0 n xs
    → new ≡ numbers xs ++ drop (length (numbers xs)) old
written_front old new n xs w =
    let e : n * 4 ≡ length (numbers xs) = omega (arith, w.ends, length_numbers xs) in
    sym (take-append-drop (n * 4) new)
    ∙ ap (λ (l : List ℤ). l ++ drop (n * 4) new) w.front
    ∙ ap (λ (l : List ℤ). numbers xs ++ l) w.back
    ∙ ap (λ (m : ℕ). numbers xs ++ drop m old) e
