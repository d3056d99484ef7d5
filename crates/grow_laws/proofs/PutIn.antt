-- A row put in by moving the rows above it up, or those below it down: the rows are the same then.
-- Assumes nothing.
use mathlib.Core.Path.{◌≡◌, ap, sym, ◌∙◌}
use mathlib.Core.List.{List, [], ◌∷◌, ◌++◌, append_assoc}
use Prim.Native.Nat.{ℕ, zero, suc, ◌+◌, ◌-◌, ◌*◌, ◌≤◌}
use native.Mathlib.Omega.{arith}
use lib.ListN.{length, take, drop, length-append, length-drop, take-append-drop}
use lib.Seq.{length-take-le, take-take, take-nil, take_at}
use lib.IntN.{ℤ}
use Rattle.grow_laws.specs.Moves.{inserted, put_in, Inserted, Slid}

drop_take : (i n : ℕ) (l : List ℤ) → i ≤ n → drop i (take n l) ≡ take (n - i) (drop i l)
drop_take zero n l h = let e : n - zero ≡ n = omega arith in rw e
drop_take (suc i) zero l h = absurd (omega arith)
drop_take (suc i) (suc n) [] h = sym (take-nil (suc n - suc i))
drop_take (suc i) (suc n) (x ∷ l) h =
    let e : suc n - suc i ≡ n - i = omega arith in rw e (drop_take i n l (omega arith))

module _ (p : ℕ) (row : List ℤ) (four : length row ≡ 4) where
  length_put : (l : List ℤ) → p * 4 ≤ length l → length (put_in l p row) ≡ length l + 4
  unfolding put_in
  length_put l h =
      omega (
        arith,
        four,
        length-append (take (p * 4) l) (row ++ drop (p * 4) l),
        length-append row (drop (p * 4) l),
        length-take-le (p * 4) l h,
        length-drop (p * 4) l,
      )

  -- what stands before a rest is put in where it stands with the rest
  put_before : (l : List ℤ) (n : ℕ) (r : List ℤ) → p ≤ n → n * 4 ≤ length l
      → take (p * 4) l ++ (row ++ (take (n * 4 - p * 4) (drop (p * 4) l) ++ r))
      ≡ put_in (take (n * 4) l) p row ++ r
  unfolding put_in
  put_before l n r h m =
      let k : p * 4 ≤ n * 4 = omega arith in
      rw (← take-take (p * 4) (n * 4) l k, ← drop_take (p * 4) (n * 4) l k)
      (ap (λ (q : List ℤ). take (p * 4) (take (n * 4) l) ++ q) (sym (append_assoc row (drop (p * 4) (take (n * 4) l)) r))
      ∙ sym (append_assoc (take (p * 4) (take (n * 4) l)) (row ++ drop (p * 4) (take (n * 4) l)) r))

  module _ (l : List ℤ) (n : ℕ) (h : p ≤ n) (m : n * 4 ≤ length l) where
    -- the rows of a list that begins with them
    began : (new r : List ℤ) → new ≡ put_in (take (n * 4) l) p row ++ r
        → take (n * 4 + 4) new ≡ put_in (take (n * 4) l) p row
    began new r e =
        let k : length (take (n * 4) l) ≡ n * 4 = length-take-le (n * 4) l m in
        ap (take (n * 4 + 4)) e ∙ take_at (put_in (take (n * 4) l) p row) r (n * 4 + 4)
        (omega (arith, length_put (take (n * 4) l) (omega arith)))

    pub from_above : (new : List ℤ) → new ≡ inserted l n p row → 4092 ≤ length new → Inserted l new n p row
    unfolding inserted
    from_above new e s = record {
      rows = began new (drop (n * 4 + 4) l) (e ∙ put_before l n (drop (n * 4 + 4) l) h m);
      room = s;
    }

    pub from_below : (new : List ℤ) → new ≡ put_in l p row → 4092 ≤ length l → Inserted l new n p row
    unfolding put_in
    from_below new e s =
        let r : List ℤ = drop (n * 4 - p * 4) (drop (p * 4) l) in
        let c : drop (p * 4) l ≡ take (n * 4 - p * 4) (drop (p * 4) l) ++ r =
        sym (take-append-drop (n * 4 - p * 4) (drop (p * 4) l)) in
        let d : new ≡ put_in (take (n * 4) l) p row ++ r =
        e ∙ ap (λ (q : List ℤ). take (p * 4) l ++ (row ++ q)) c ∙ put_before l n r h m in
        record { rows = began new r d; room = omega (arith, ap length e, length_put l (omega arith)) }

-- rows that slid, and then had a row put in
pub slid_inserted : (old mid new : List ℤ) (n p : ℕ) (row : List ℤ) → Slid old mid n → Inserted mid new n p row
    → Inserted old new n p row
slid_inserted old mid new n p row s i =
    record { rows = i.rows ∙ ap (λ (l : List ℤ). put_in l p row) s.rows; room = i.room }
