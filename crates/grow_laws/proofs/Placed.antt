-- A row put in at the place that the search names is inserted, and the rows stay rising and within bounds.
-- Assumes nothing.
use mathlib.Core.Path.{◌≡◌, refl, ap, sym, subst, ◌∙◌}
use mathlib.Core.Logic.{⊎_elim}
use mathlib.Core.Option.{Option}
use mathlib.Core.Bool.{true, false, ◌&&◌}
use mathlib.Core.List.{List, [], ◌∷◌, ◌++◌}
use Prim.Native.Nat.{ℕ, zero, suc, ◌+◌, ◌*◌, ◌/◌, ◌<◌, ◌≤◌}
use native.Mathlib.Omega.{arith}
use native.Mathlib.Numerals.{add-one}
use borrow.Author.Tests.{le-leb, lt-ltb, le-ltb}
use lib.Dec.{leb, ltb}
use lib.ListN.{length, get_or, take, drop}
use lib.Seq.{length-take-le, get_or_at}
use lib.IntN.{ℤ, pos}
use Rattle.laws.proofs.Tests.{never}
use Rattle.laws.proofs.Every.{both, every_true, every_in}
use Rattle.laws.proofs.RowNumbers.{rows_numbers}
use Rattle.paper.specs.Rows.{Row, signed, rows_in, numbers}
use Rattle.paper.specs.Checks.{every, row_fits, production_fits, before, rising}
use Rattle.paper.specs.Build.{insert}
use Rattle.rows.specs.Places.{row_at, key}
use Rattle.rows.proofs.Keys.{before_key, compared}
use Rattle.rows.proofs.Passing.{fit_at}
use Rattle.search.proofs.Finding.{found}
use Rattle.trees.proofs.Find.{In}
use Rattle.trees.proofs.Rising.{true_rising, rising_true, rising_insert, in_insert}
use Rattle.grow_laws.specs.Moves.{put_in, Inserted}
use Rattle.grow_laws.specs.Held.{held, Laid, Missed, next, Added}
use Rattle.grow_laws.proofs.Written.{numbers_append, numbers_take, numbers_drop, numbers_back, no_row, row_there, held_numbers, held_length, held_at}

-- a row from s by t to the next state, whose place among the n rows is i.
pub record Adding (buf : List ℤ) (n i s t : ℕ) : Type 0 where
  pub missed : Missed buf n i s t
  pub more : n < 1023
  pub terminal : t ≤ 65535

-- a row goes before the first row that it comes before
pub insert_at : (r : Row) (rs : List Row) (p : ℕ) → p ≤ length rs
    → ((k : ℕ) → k < p → before r (get_or rs k no_row) ≡ false)
    → (p < length rs → before r (get_or rs p no_row) ≡ true)
    → insert r rs ≡ take p rs ++ (r ∷ drop p rs)
unfolding insert
insert_at r [] zero h b a = refl
insert_at r [] (suc p) h b a = absurd (omega arith)
insert_at r (x ∷ rs) zero h b a = rw (a (omega arith))
insert_at r (x ∷ rs) (suc p) h b a =
    rw (
      b 0 (omega arith),
      insert_at r rs p (omega arith) (λ k l. b (suc k) (omega arith)) (λ l. a (omega arith)),
    )

pub fitting : (r : Row) → r.from ≤ 1023 → r.terminal ≤ 65535 → r.to ≤ 1023 → production_fits r.production ≡ true
    → row_fits r ≡ true
unfolding row_fits
fitting r a b c d =
    both (leb r.from 1023 && leb r.terminal 65535) _
    (both _ _ (le-leb _ _ a) (le-leb _ _ b)) (both _ _ (le-leb _ _ c) d)

module _ (buf : List ℤ) (n : ℕ) (l : Laid buf n) where
  pub room : n * 4 ≤ length buf
  room = omega (arith, l.few, l.room)

  -- the rows held are written as the numbers there
  pub written : numbers (held buf n) ≡ take (n * 4) buf
  written = numbers_back (take (n * 4) buf) n (held_numbers buf n room) l.passed.fits

-- numbers that are written rows are these rows, and pass where they do
pub laid_by : (buf : List ℤ) (n : ℕ) (rs : List Row) → n ≤ 1023 → 4092 ≤ length buf → take (n * 4) buf ≡ numbers rs
    → every row_fits rs ≡ true → rising rs ≡ true → Laid buf n
laid_by buf n rs f m e a b =
    let h : rows_in (take (n * 4) buf) ≡ rs = ap rows_in e ∙ rows_numbers rs in
    record { few = f; room = m; passed = record { fits = rw h a; rises = rw h b } }

module _ (buf : List ℤ) (n i s t : ℕ) (p : Option ℕ) (f : production_fits p ≡ true) (a : Adding buf n i s t) where
  abbrev ns : List ℤ
  ns = take (n * 4) buf

  abbrev rs : List Row
  rs = rows_in (take (n * 4) buf)

  abbrev r : Row
  r = next n s t p

  laid : Laid buf n
  laid = a.missed.laid

  numbers_long : length ns ≡ n * 4
  numbers_long = held_numbers buf n (room buf n (laid))

  pub place_within : i ≤ n
  place_within = omega (arith, a.missed.place.within, numbers_long)

  -- by their keys the rows before the place are lower, and the row there is higher
  row_of : (k : ℕ) → k < n → get_or rs k no_row ≡ row_at ns k
  row_of k h = row_there ns k (omega (arith, numbers_long))

  by_key : (k : ℕ) → k < n → before r (get_or rs k no_row) ≡ ltb (key r) (key (row_at ns k))
  by_key k h =
      let m : (row_at ns k).terminal ≤ 65535 = (fit_at laid.passed k (omega (arith, numbers_long))).terminal in
      ap (before r) (row_of k h) ∙ before_key r (row_at ns k) a.terminal m

  lower : (k : ℕ) → k < i → before r (get_or rs k no_row) ≡ false
  lower k h =
      let m : k < n = omega (arith, place_within) in
      let q : key (row_at ns k) ≤ key r = omega (arith, a.missed.place.below k h) in
      by_key k m ∙ le-ltb (key r) (key (row_at ns k)) q

  -- the row there does not have the key itself
  apart : i < n → key r ≡ key (row_at ns i) → ⊥
  apart h e =
      let l : i < length ns / 4 = omega (arith, numbers_long) in
      never (sym a.missed.new ∙ found ns s t i a.missed.place laid.passed a.terminal l (sym e))

  higher : i < n → before r (get_or rs i no_row) ≡ true
  higher h =
      let q : s * 65536 + t ≤ key (row_at ns i) = a.missed.place.above i (omega arith) (omega (arith, numbers_long)) in
      let m : key r < key (row_at ns i) = above (key r) (key (row_at ns i)) q (apart h) in
      by_key i h ∙ lt-ltb (key r) (key (row_at ns i)) m
    where
      above : (x y : ℕ) → x ≤ y → (x ≡ y → ⊥) → x < y
      above x y q d = compared x y (λ z. z) (λ z. absurd (d z)) (λ z. absurd (omega arith))

  rows_long : length rs ≡ n
  rows_long = held_length buf n (room buf n (laid))

  split : insert r rs ≡ take i rs ++ (r ∷ drop i rs)
  split =
      let m : length rs ≡ n = rows_long in
      insert_at r rs i (omega (arith, place_within)) lower (λ h. higher (omega arith))

  module _ (new : List ℤ) (e : Inserted buf new n i (pos s ∷ pos t ∷ pos (suc n) ∷ signed p ∷ [])) where
    now_written : take (suc n * 4) new ≡ numbers (insert r rs)
    unfolding put_in
    now_written =
        let m : suc n * 4 ≡ n * 4 + 4 = omega arith in
        let w : numbers rs ≡ ns = written buf n laid in
        rw m (e.rows ∙ sym (ap numbers split ∙ numbers_append (take i rs) (r ∷ drop i rs)
        ∙ rw (numbers_take i rs, numbers_drop i rs, w)))

    pub added : Added buf new n i s t p
    added = record {
      there = omega (arith, place_within);
      at = sym (held_at new (suc n) (omega (arith, a.more, e.room)) i (omega (arith, place_within)))
          ∙ ap (λ (l : List Row). get_or l i no_row) (ap rows_in now_written ∙ rows_numbers (insert r rs) ∙ split)
          ∙ get_or_at (take i rs) r (drop i rs) no_row i (length-take-le i rs (omega (arith, place_within, rows_long)));
      laid = laid_by new (suc n) (insert r rs) (omega (arith, a.more)) e.room now_written
          (every_true row_fits (insert r rs)
          (λ x j. ⊎_elim (λ k. ap row_fits k ∙ own) (λ k. old x k) (in_insert r rs x j)))
          (rising_true (insert r rs) (rising_insert r rs (true_rising rs laid.passed.rises) a.missed.new));
      rows = ap rows_in now_written ∙ rows_numbers (insert r rs);
    }
      where
        own : row_fits r ≡ true
        own = fitting r a.missed.from a.terminal (omega (arith, a.more)) f

        old : (x : Row) → In x rs → row_fits x ≡ true
        old x k = every_in row_fits rs laid.passed.fits x k

-- the numbers of the row as they were passed on
pub adds : (buf new : List ℤ) (n i s t : ℕ) (p : Option ℕ) (w x y z : ℤ) → Missed buf n i s t → n < 1023 → t ≤ 65535
    → production_fits p ≡ true → Inserted buf new n i (w ∷ x ∷ y ∷ z ∷ [])
    → w ≡ pos s → x ≡ pos t → y ≡ pos (n + 1) → z ≡ signed p → Added buf new n i s t p
adds buf new n i s t p w x y z m h k f e ew ex ey ez =
    added buf n i s t p f (record { missed = m; more = h; terminal = k }) new
    (subst (λ (row : List ℤ). Inserted buf new n i row)
    (λ j. ew j ∷ ex j ∷ (ey ∙ ap pos (add-one n)) j ∷ ez j ∷ []) e)
