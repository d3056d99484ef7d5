-- Rows moved up from the last down make room, and a row put there is put in.
-- Assumes nothing.
use mathlib.Core.Path.{◌≡◌, refl, ap, sym, ◌∙◌}
use mathlib.Core.List.{List, [], ◌∷◌, ◌++◌}
use Prim.Native.Nat.{ℕ, suc, ◌+◌, ◌-◌, ◌*◌, ◌<◌, ◌≤◌}
use native.Mathlib.Omega.{arith}
use native.Mathlib.Nat.{sub_self}
use lib.ListN.{length, get_or, take, drop, take-append-drop, get_or-append}
use lib.Seq.{drop-cons, length-take-le, get_or-take, take-append-le, take-take, take_at, drop_at}
use lib.IntN.{ℤ, pos}
use Rattle.rows.specs.Places.{four}
use Rattle.rows.proofs.Four.{four_is}
use Rattle.grow_laws.specs.Moves.{over_row, up_row, up_four, opened, inserted}

as_four : (row : List ℤ) → length row ≡ 4
    → row ≡ get_or row 0 (pos 0) ∷ get_or row 1 (pos 0) ∷ get_or row 2 (pos 0) ∷ get_or row 3 (pos 0) ∷ []
as_four [] h = absurd (omega arith)
as_four (w ∷ []) h = absurd (omega arith)
as_four (w ∷ x ∷ []) h = absurd (omega arith)
as_four (w ∷ x ∷ y ∷ []) h = absurd (omega arith)
as_four (w ∷ x ∷ y ∷ z ∷ []) h = refl
as_four (w ∷ x ∷ y ∷ z ∷ v ∷ r) h = absurd (omega arith)

-- the four numbers of a row stored one after the other
pub stored : (l : List ℤ) (i : ℕ) (row : List ℤ) {w x y z : ℤ} → i * 4 + 3 < length l → length row ≡ 4
    → w ≡ get_or row 0 (pos 0) → x ≡ get_or row 1 (pos 0) → y ≡ get_or row 2 (pos 0) → z ≡ get_or row 3 (pos 0)
    → four l (i * 4) w x y z ≡ over_row l i row
unfolding over_row
stored l i row h e p q r s =
    rw (p, q, r, s) (four_is l (i * 4) _ _ _ _ (omega arith)
    ∙ ap (λ (ns : List ℤ). take (i * 4) l ++ (ns ++ drop (i * 4 + 4) l)) (sym (as_four row e)))

next : (l : List ℤ) (k m : ℕ) → k < length l → suc k ≡ m → drop k l ≡ get_or l k (pos 0) ∷ drop m l
next l k m h e = drop-cons l k (pos 0) h ∙ rw e

-- the four numbers of row i, and what follows them
pub row_off : (l : List ℤ) (i : ℕ) → i * 4 + 3 < length l
    → drop (i * 4) l ≡ get_or l (i * 4) (pos 0) ∷ get_or l (i * 4 + 1) (pos 0) ∷ get_or l (i * 4 + 2) (pos 0)
    ∷ get_or l (i * 4 + 3) (pos 0) ∷ drop (i * 4 + 4) l
row_off l i h =
    rw (
      next l (i * 4) (i * 4 + 1) (omega arith) (omega arith),
      next l (i * 4 + 1) (i * 4 + 2) (omega arith) (omega arith),
      next l (i * 4 + 2) (i * 4 + 3) (omega arith) (omega arith),
      next l (i * 4 + 3) (i * 4 + 4) (omega arith) (omega arith),
    )

-- a row put into a list whose first m numbers are l's, where these end with the row's place
put_after : (l r : List ℤ) (m i : ℕ) (row : List ℤ) → m ≡ i * 4 + 4 → m ≤ length l
    → over_row (take m l ++ r) i row ≡ take (i * 4) l ++ (row ++ r)
unfolding over_row
put_after l r m i row e h =
    let lm : length (take m l) ≡ m = length-take-le m l h in
    let a : take (i * 4) (take m l ++ r) ≡ take (i * 4) l =
    take-append-le (i * 4) (take m l) r (omega arith) ∙ take-take (i * 4) m l (omega arith) in
    let b : drop (i * 4 + 4) (take m l ++ r) ≡ r = drop_at (take m l) r (i * 4 + 4) (omega arith) in
    rw (a, b)

module _ (l : List ℤ) (d n : ℕ) (room : n * 4 + d * 4 ≤ length l) where
  pub open_none : l ≡ opened l d n n
  unfolding opened
  open_none = sym (rw sub_self (take-append-drop (n * 4 + d * 4) l))

  open_read : (k j : ℕ) → k ≤ n → j < k * 4 + d * 4 → get_or (opened l d n k) j (pos 0) ≡ get_or l j (pos 0)
  unfolding opened
  open_read k j h m =
      get_or-append (take (k * 4 + d * 4) l) (take (n * 4 - k * 4) (drop (k * 4) l) ++ drop (n * 4 + d * 4) l)
      (pos 0) j (omega (arith, length-take-le (k * 4 + d * 4) l (omega arith)))
      ∙ get_or-take (k * 4 + d * 4) l j (pos 0) m

  pub open_step : (k : ℕ) → k < n → up_row (opened l d n (k + 1)) d k ≡ opened l d n k
  unfolding opened
  open_step k h =
      let up : take (n * 4 - k * 4) (drop (k * 4) l)
      ≡ get_or l (k * 4) (pos 0) ∷ get_or l (k * 4 + 1) (pos 0) ∷ get_or l (k * 4 + 2) (pos 0)
      ∷ get_or l (k * 4 + 3) (pos 0) ∷ take (n * 4 - (k + 1) * 4) (drop ((k + 1) * 4) l) =
      let s : n * 4 - k * 4 ≡ suc (suc (suc (suc (n * 4 - (k + 1) * 4)))) = omega arith in
      let t : (k + 1) * 4 ≡ k * 4 + 4 = omega arith in
      rw (s, t, row_off l k (omega arith)) in
      let v : (k + d) * 4 ≡ k * 4 + d * 4 = omega arith in
      let r₀ : get_or (opened l d n (k + 1)) (k * 4) (pos 0) ≡ get_or l (k * 4) (pos 0) =
      open_read (k + 1) (k * 4) (omega arith) (omega arith) in
      let r₁ : get_or (opened l d n (k + 1)) (k * 4 + 1) (pos 0) ≡ get_or l (k * 4 + 1) (pos 0) =
      open_read (k + 1) (k * 4 + 1) (omega arith) (omega arith) in
      let r₂ : get_or (opened l d n (k + 1)) (k * 4 + 2) (pos 0) ≡ get_or l (k * 4 + 2) (pos 0) =
      open_read (k + 1) (k * 4 + 2) (omega arith) (omega arith) in
      let r₃ : get_or (opened l d n (k + 1)) (k * 4 + 3) (pos 0) ≡ get_or l (k * 4 + 3) (pos 0) =
      open_read (k + 1) (k * 4 + 3) (omega arith) (omega arith) in
      put_after l (take (n * 4 - (k + 1) * 4) (drop ((k + 1) * 4) l) ++ drop (n * 4 + d * 4) l) ((k + 1) * 4 + d * 4)
      (k + d) _ (omega arith) (omega arith)
      ∙ rw (r₀, r₁, r₂, r₃, up, v)

  -- four steps at once
  pub open_four : (k : ℕ) → k + 4 ≤ n → up_four (opened l d n (k + 4)) d k ≡ opened l d n k
  open_four k h =
      let a : k + 4 ≡ k + 3 + 1 = omega arith in
      let b : k + 3 ≡ k + 2 + 1 = omega arith in
      let c : k + 2 ≡ k + 1 + 1 = omega arith in
      ap (λ (m : List ℤ). up_row (up_row (up_row m d (k + 2)) d (k + 1)) d k)
      (ap (λ (j : ℕ). up_row (opened l d n j) d (k + 3)) a ∙ open_step (k + 3) (omega arith))
      ∙ ap (λ (m : List ℤ). up_row (up_row m d (k + 1)) d k)
      (ap (λ (j : ℕ). up_row (opened l d n j) d (k + 2)) b ∙ open_step (k + 2) (omega arith))
      ∙ ap (λ (m : List ℤ). up_row m d k)
      (ap (λ (j : ℕ). up_row (opened l d n j) d (k + 1)) c ∙ open_step (k + 1) (omega arith))
      ∙ open_step k (omega arith)

  -- all rows moved up, and seen from where they then begin
  pub slid_rows : take (n * 4) (drop (d * 4) (opened l d n 0)) ≡ take (n * 4) l
  unfolding opened
  slid_rows =
      let e : 0 * 4 + d * 4 ≡ d * 4 = omega arith in
      let f : n * 4 - 0 * 4 ≡ n * 4 = omega arith in
      rw (e, f) (ap (take (n * 4))
      (drop_at (take (d * 4) l) (take (n * 4) l ++ drop (n * 4 + d * 4) l) (d * 4)
      (length-take-le (d * 4) l (omega arith)))
      ∙ take_at (take (n * 4) l) (drop (n * 4 + d * 4) l) (n * 4) (length-take-le (n * 4) l (omega arith)))

-- the row in the room that was made for it
pub fill : (l : List ℤ) (n p : ℕ) (row : List ℤ) → n * 4 + 4 ≤ length l → p ≤ n
    → over_row (opened l 1 n p) p row ≡ inserted l n p row
unfolding opened inserted
fill l n p row m h =
    put_after l (take (n * 4 - p * 4) (drop (p * 4) l) ++ drop (n * 4 + 4) l) (p * 4 + 4) p row refl (omega arith)
