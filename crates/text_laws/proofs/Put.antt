-- Laws of writing into a list from a place on. Assumes nothing.
use Prim.Native.Nat.{ℕ, suc, ◌+◌, ◌<◌, ◌≤◌}
use mathlib.Core.Path.{◌≡◌, ap, sym, ◌∙◌}
use mathlib.Core.List.{List, [], ◌∷◌, ◌++◌, append_assoc}
use native.Mathlib.Omega.{arith}
use native.Mathlib.Nat.{add-zero, zero-add}
use lib.ListN.{length, take, drop, set, length-append, length-drop, take-append-drop}
use lib.Seq.{take_at, drop_at, drop-append-add, drop-drop, length-take-le, take-length, take-set-le, paste, set_split}
use lib.IntN.{ℤ}
use Rattle.rows.specs.Places.{four}
use Rattle.rows.proofs.Four.{four_is}
use Rattle.text_laws.specs.Put.{put}

module _ {A : Type 0} (l : List A) (at : ℕ) where
  pub put_nil : put l at [] ≡ l
  unfolding put
  put_nil = rw (add-zero at) (take-append-drop at l)

  pub put_pasted : (s : List A) (n : ℕ) → n ≡ length s → paste l at s n ≡ put l at s
  unfolding put
  put_pasted s n e = rw (e, take-length s, append_assoc)

  module _ (a : List A) (h : at + length a ≤ length l) where
    filled : length (take at l ++ a) ≡ at + length a
    filled = omega (arith, length-append (take at l) a, length-take-le at l (omega arith))

    pub put_length : length (put l at a) ≡ length l
    unfolding put
    put_length =
        let d = drop (at + length a) l in
        omega (
          arith,
          length-append (take at l) (a ++ d),
          length-append a d,
          length-drop (at + length a) l,
          length-take-le at l (omega arith),
        )

    -- what is written on from where a writing ends is one writing
    pub put_put : (b : List A) → put (put l at a) (at + length a) b ≡ put l at (a ++ b)
    unfolding put
    put_put b =
        let d = drop (at + length a) l in
        let n : at + length a + length b ≡ at + length (a ++ b) = omega (arith, length-append a b) in
        let t : take (at + length a) (take at l ++ (a ++ d)) ≡ take at l ++ a =
        ap (take (at + length a)) (sym (append_assoc (take at l) a d))
        ∙ take_at (take at l ++ a) d (at + length a) filled in
        let r : drop (at + length a + length b) (take at l ++ (a ++ d)) ≡ drop (at + length (a ++ b)) l =
        ap (drop (at + length a + length b)) (sym (append_assoc (take at l) a d))
        ∙ ap (λ (k : ℕ). drop (k + length b) ((take at l ++ a) ++ d)) (sym filled)
        ∙ drop-append-add (take at l ++ a) d (length b)
        ∙ drop-drop (length b) (at + length a) l
        ∙ ap (λ (k : ℕ). drop k l) n in
        rw (t, r) (append_assoc (take at l) a _ ∙ ap (λ (x : List A). take at l ++ x) (sym (append_assoc a b _)))

pub put_front : {A : Type 0} (l a : List A) → put l 0 a ≡ a ++ drop (length a) l
unfolding put
put_front l a = rw zero-add

-- a writing whose last element is there already
pub put_last : {A : Type 0} (l : List A) (at : ℕ) (a : List A) (d : A) → at + length a < length l →
    put (set l (at + length a) d) at a ≡ put l at (a ++ (d ∷ []))
unfolding put
put_last l at a d h =
    let k = at + length a in
    let s : set l k d ≡ take k l ++ (d ∷ drop (suc k) l) = set_split l k d h in
    let r : drop k (set l k d) ≡ d ∷ drop (suc k) l =
    ap (drop k) s ∙ drop_at (take k l) _ k (length-take-le k l (omega arith)) in
    let n : at + length (a ++ (d ∷ [])) ≡ suc k = omega (arith, length-append a (d ∷ [])) in
    rw (take-set-le at l k d (omega arith), r, n)
    (ap (λ x. take at l ++ x) (sym (append_assoc a (d ∷ []) (drop (suc k) l))))

-- four numbers, one after another
pub put_four : (l : List ℤ) (at : ℕ) (a b c d : ℤ) → at + 4 ≤ length l → four l at a b c d ≡ put l at (a ∷ b ∷ c ∷ d ∷ [])
unfolding put
put_four = four_is
