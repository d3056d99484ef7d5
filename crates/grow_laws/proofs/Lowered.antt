-- Rows moved down from the first on make room for one, and a row put there is put in.
-- Assumes nothing.
use mathlib.Core.Path.{◌≡◌, refl, ap, sym, ◌∙◌}
use mathlib.Core.List.{List, [], ◌∷◌, ◌++◌, append_assoc}
use Prim.Native.Nat.{ℕ, ◌+◌, ◌*◌, ◌<◌}
use native.Mathlib.Omega.{arith}
use lib.ListN.{length, get_or, take, drop, length-drop}
use lib.Seq.{length-take-le, take_at, drop-append-add, get_or-append-add, get_or-drop, drop-drop, take-add}
use lib.IntN.{ℤ, pos}
use Rattle.grow_laws.specs.Moves.{over_row, copied, down_four, lowered, put_in}
use Rattle.grow_laws.proofs.Shifted.{row_off}

-- a row put where a second list begins
over_at : (p q : List ℤ) (i : ℕ) (row : List ℤ) → length p ≡ i * 4 → over_row (p ++ q) i row ≡ p ++ (row ++ drop 4 q)
unfolding over_row
over_at p q i row e =
    let a : take (i * 4) (p ++ q) ≡ p = take_at p q (i * 4) e in
    let b : drop (i * 4 + 4) (p ++ q) ≡ drop 4 q =
    ap (λ (k : ℕ). drop (k + 4) (p ++ q)) (sym e) ∙ drop-append-add p q 4 in
    rw (a, b)

module _ (l : List ℤ) where
  pub lower_none : l ≡ lowered l 0
  unfolding lowered
  lower_none = refl

  module _ (k : ℕ) (h : k * 4 + 3 < length l) where
    abbrev low : List ℤ
    low = take (k * 4) (drop 4 l)

    low_long : length low ≡ k * 4
    low_long = length-take-le (k * 4) (drop 4 l) (omega (arith, length-drop 4 l))

    lower_read : (j : ℕ) → get_or (lowered l k) (k * 4 + j) (pos 0) ≡ get_or l (k * 4 + j) (pos 0)
    unfolding lowered
    lower_read j =
        ap (λ (m : ℕ). get_or (low ++ drop (k * 4) l) (m + j) (pos 0)) (sym low_long)
        ∙ get_or-append-add low (drop (k * 4) l) j (pos 0) ∙ get_or-drop (k * 4) l j (pos 0)

    -- a row put at the seam
    seam : (row : List ℤ) → over_row (lowered l k) k row ≡ low ++ (row ++ drop (k * 4 + 4) l)
    unfolding lowered
    seam row =
        over_at low (drop (k * 4) l) k row low_long ∙ ap (λ (r : List ℤ). low ++ (row ++ r)) (drop-drop 4 (k * 4) l)

    -- the row in the room that was made for it
    pub fill_low : (row : List ℤ) → over_row (lowered l k) k row ≡ put_in (drop 4 l) k row
    unfolding put_in
    fill_low row =
        let e : 4 + k * 4 ≡ k * 4 + 4 = omega arith in
        seam row ∙ ap (λ (r : List ℤ). low ++ (row ++ r)) (sym (drop-drop (k * 4) 4 l ∙ ap (λ (m : ℕ). drop m l) e))

  lowered_next : (k : ℕ) → k * 4 + 7 < length l → lowered l (k + 1) ≡ take (k * 4) (drop 4 l)
      ++ (get_or l (k * 4 + 4) (pos 0) ∷ get_or l (k * 4 + 5) (pos 0)
      ∷ get_or l (k * 4 + 6) (pos 0) ∷ get_or l (k * 4 + 7) (pos 0) ∷ drop (k * 4 + 4) l)
  unfolding lowered
  lowered_next k h =
      let e : (k + 1) * 4 ≡ k * 4 + 4 = omega arith in
      let e₀ : 4 + k * 4 ≡ (k + 1) * 4 = omega arith in
      let e₁ : (k + 1) * 4 + 1 ≡ k * 4 + 5 = omega arith in
      let e₂ : (k + 1) * 4 + 2 ≡ k * 4 + 6 = omega arith in
      let e₃ : (k + 1) * 4 + 3 ≡ k * 4 + 7 = omega arith in
      let four : List ℤ = get_or l (k * 4 + 4) (pos 0) ∷ get_or l (k * 4 + 5) (pos 0)
      ∷ get_or l (k * 4 + 6) (pos 0) ∷ get_or l (k * 4 + 7) (pos 0) ∷ [] in
      let off : drop (k * 4) (drop 4 l) ≡ four ++ drop ((k + 1) * 4 + 4) l =
      drop-drop (k * 4) 4 l ∙ ap (λ (m : ℕ). drop m l) e₀ ∙ row_off l (k + 1) (omega arith) ∙ rw (e₁, e₂, e₃, e) in
      rw (e, take-add (k * 4) 4 (drop 4 l), off)
      (append_assoc (take (k * 4) (drop 4 l)) four (drop (k * 4 + 4) l))

  pub lower_step : (k m : ℕ) → m ≡ k + 1 → m * 4 + 3 < length l → copied (lowered l k) m k ≡ lowered l m
  lower_step k m e h =
      let s : k * 4 + 3 < length l = omega arith in
      let t : k * 4 + 7 < length l = omega arith in
      let e₀ : m * 4 ≡ k * 4 + 4 = omega arith in
      let e₁ : m * 4 + 1 ≡ k * 4 + 5 = omega arith in
      let e₂ : m * 4 + 2 ≡ k * 4 + 6 = omega arith in
      let e₃ : m * 4 + 3 ≡ k * 4 + 7 = omega arith in
      rw (e₁, e₂, e₃, e₀, lower_read k s 4, lower_read k s 5, lower_read k s 6, lower_read k s 7)
      (seam k s _ ∙ sym (lowered_next k t) ∙ sym (ap (lowered l) e))

  -- four steps at once
  pub lower_four : (k : ℕ) → k * 4 + 19 < length l → down_four (lowered l k) k ≡ lowered l (k + 4)
  lower_four k h =
      ap (λ (m : List ℤ). copied (copied (copied m (k + 2) (k + 1)) (k + 3) (k + 2)) (k + 4) (k + 3))
      (lower_step k (k + 1) refl (omega arith))
      ∙ ap (λ (m : List ℤ). copied (copied m (k + 3) (k + 2)) (k + 4) (k + 3))
      (lower_step (k + 1) (k + 2) (omega arith) (omega arith))
      ∙ ap (λ (m : List ℤ). copied m (k + 4) (k + 3)) (lower_step (k + 2) (k + 3) (omega arith) (omega arith))
      ∙ lower_step (k + 3) (k + 4) (omega arith) (omega arith)
