-- The array seen from a row on: what is read, written, lent and given back there.
-- Assumes nothing.
use mathlib.Core.Path.{◌≡◌, ap, sym, ◌∙◌}
use mathlib.Core.List.{List, [], ◌++◌, append-nil}
use Prim.Native.Nat.{ℕ, ◌+◌, ◌-◌, ◌*◌, ◌<◌, ◌≤◌}
use native.Mathlib.Omega.{arith}
use lib.ListN.{length, take, drop, length-drop, drop_of_length-le}
use lib.Seq.{length-take-le, take_all, drop_at, drop-drop}
use lib.IntN.{ℤ}
use Rattle.rows.specs.Places.{row_at}
use Rattle.rows.proofs.Passing.{fit_at}
use Rattle.grow_laws.specs.Moves.{opened, inserted, put_in, Inserted, Slid}
use Rattle.grow_laws.specs.Held.{view, row_held, Laid}
use Rattle.grow_laws.proofs.Shifted.{slid_rows}
use Rattle.grow_laws.proofs.Written.{held_numbers}
use Rattle.grow_laws.proofs.Placed.{room}
use Rattle.grow_laws.proofs.PutIn.{from_above, from_below}

-- ---- a part of a list from a place on, lent and given back
abbrev pub part : List ℤ → ℕ → ℕ → List ℤ
part buf a size = take (size - a) (drop a buf)

abbrev pub back : List ℤ → ℕ → ℕ → List ℤ → List ℤ
back buf a size ys = take a buf ++ (ys ++ drop (size - a) (drop a buf))

pub part_is : (buf : List ℤ) (a size : ℕ) → size ≡ length buf → part buf a size ≡ drop a buf
part_is buf a size e = take_all (size - a) (drop a buf) (omega (arith, e, length-drop a buf))

pub back_is : (buf : List ℤ) (a size : ℕ) (ys : List ℤ) → size ≡ length buf → a ≤ length buf
    → drop a (back buf a size ys) ≡ ys
back_is buf a size ys w h =
    let e : drop (size - a) (drop a buf) ≡ [] =
    drop_of_length-le (drop a buf) {i = size - a} (omega (arith, w, length-drop a buf)) in
    drop_at (take a buf) (ys ++ drop (size - a) (drop a buf)) a (length-take-le a buf h)
    ∙ ap (λ (r : List ℤ). ys ++ r) e ∙ append-nil ys

-- the room for 1,023 rows, and the rows, are within the array
pub reached : (buf : List ℤ) (lo : ℕ) → 4092 ≤ length (view buf lo) → lo * 4 + 4092 ≤ length buf
reached buf lo h = omega (arith, length-drop (lo * 4) buf)

pub reach : (buf : List ℤ) (lo n : ℕ) → Laid (view buf lo) n → lo * 4 + n * 4 ≤ length buf
reach buf lo n l = omega (arith, l.few, l.room, length-drop (lo * 4) buf)

module _ (buf : List ℤ) (n i : ℕ) (l : Laid buf n) (h : i < n) where
  pub to_small : (row_held buf n i).to ≤ 1023
  to_small = (fit_at l.passed i (omega (arith, held_numbers buf n (room buf n l)))).to

  pub to_read : (to : ℕ) (ns : List ℤ) → to ≡ (row_at ns i).to → ns ≡ take (n * 4) buf
      → (to ≡ (row_held buf n i).to) × (to ≤ 1023)
  to_read to ns e d =
      let k : to ≡ (row_held buf n i).to = e ∙ ap (λ (x : List ℤ). (row_at x i).to) d in
      (k, omega (arith, k, to_small))

-- ---- a row put in there, and where the rows begin then
module _ (buf : List ℤ) (lo n p : ℕ) (row : List ℤ) (four : length row ≡ 4) (h : p ≤ n) (f : n < 1023)
    (m : 4092 ≤ length (view buf lo)) (size : ℕ) (whole : size ≡ length buf) where
  within : lo * 4 + 4092 ≤ length buf
  within = reached buf lo m

  pub moved_up : (ys : List ℤ) → ys ≡ inserted (part buf (lo * 4) size) n p row
      → length ys ≡ length (part buf (lo * 4) size)
      → Inserted (view buf lo) (view (back buf (lo * 4) size ys) lo) n p row
  moved_up ys e s =
      let b : lo * 4 ≤ length buf = omega (arith, within) in
      let i : view (back buf (lo * 4) size ys) lo ≡ ys = back_is buf (lo * 4) size ys whole b in
      let q : part buf (lo * 4) size ≡ view buf lo = part_is buf (lo * 4) size whole in
      from_above p row four (view buf lo) n h (omega arith) (view (back buf (lo * 4) size ys) lo)
      (i ∙ e ∙ ap (λ (l : List ℤ). inserted l n p row) q)
      (omega (arith, ap length i, s, ap length q, m))

  pub moved_down : 0 < lo → (ys : List ℤ) → ys ≡ put_in (drop 4 (part buf ((lo - 1) * 4) size)) p row
      → Inserted (view buf lo) (view (back buf ((lo - 1) * 4) size ys) (lo - 1)) n p row
  moved_down d ys e =
      let a = (lo - 1) * 4 in
      let k : a + 4 ≡ lo * 4 = omega arith in
      let r : drop 4 (part buf a size) ≡ view buf lo =
      ap (drop 4) (part_is buf a size whole) ∙ drop-drop 4 a buf ∙ ap (λ (j : ℕ). drop j buf) k in
      from_below p row four (view buf lo) n h (omega arith) (view (back buf a size ys) (lo - 1))
      (back_is buf a size ys whole (omega (arith, within)) ∙ e ∙ ap (λ (l : List ℤ). put_in l p row) r) m

-- ---- rows that slid up
pub slid : (buf : List ℤ) (lo n : ℕ) → lo ≡ 0 → n < 1023 → 4604 ≤ length buf → (new : List ℤ)
    → new ≡ opened buf 128 n 0 → length new ≡ length buf → Slid (view buf lo) (view new 128) n
slid buf lo n z f k new e s = record {
  rows = ap (λ (l : List ℤ). take (n * 4) (view l 128)) e ∙ slid_rows buf 128 n (omega arith)
      ∙ ap (λ (j : ℕ). take (n * 4) (view buf j)) (sym z);
  room = omega (arith, s, length-drop 512 new);
}
