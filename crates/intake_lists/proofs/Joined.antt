-- A table read back from an array goes into unite and shrink as the made table does; one more list joined to it.
-- Assumes nothing.
use mathlib.Core.Path.{◌≡◌, refl, ap, sym, ◌∙◌}
use mathlib.Core.Bool.{false}
use mathlib.Core.List.{List, [], ◌∷◌}
use Prim.Native.Nat.{ℕ, ◌*◌, ◌%◌, ◌≤◌}
use native.Mathlib.Omega.{arith}
use native.Mathlib.Nat.{mul-mod_right}
use lib.ListN.{length, take}
use lib.Seq.{length-take-le}
use lib.IntN.{ℤ}
use borrow.Author.Tests.{eq-eqb, le-ltb}
use Rattle.laws.proofs.RowNumbers.{table_numbers, slice_numbers}
use Rattle.paper.specs.declared.Mode.TheVariants.{Intake}
use Rattle.paper.specs.declared.Refusal.{Refusal}
use Rattle.std.specs.Prelude.{Result, Ok, Err}
use Rattle.paper.specs.declared.Heading.{Heading}
use Rattle.paper.specs.Rows.{rows_in, table}
use Rattle.paper.specs.Answers.{refuse, number, detail, then, Made, Makes}
use Rattle.paper.specs.Checks.{row_slice, little_room}
use Rattle.paper.specs.Build.{build}
use Rattle.paper.specs.Unite.{unite}
use Rattle.paper.specs.Shrink.{shrink}
use Rattle.trees.specs.Chain.{unite_made}
use Rattle.promises.specs.Demand.{shrink_made}
use Rattle.intake_lists.specs.Call.{Lent, build_lent, join_lent}
use Rattle.intake_lists.specs.Held.{held, Holds}

rows_short : (ns : List ℤ) → length (rows_in ns) * 4 ≤ length ns
rows_short [] = omega arith
rows_short (f ∷ []) = omega arith
rows_short (f ∷ t ∷ []) = omega arith
rows_short (f ∷ t ∷ g ∷ []) = omega arith
rows_short (f ∷ t ∷ g ∷ p ∷ ns) = omega (arith, rows_short ns)

-- n rows at the front of an array with room for 1,023
module _ (buf : List ℤ) (n : ℕ) (few : n ≤ 1023) (room : 4092 ≤ length buf) where
  pub part_length : length (take (n * 4) buf) ≡ n * 4
  part_length = length-take-le (n * 4) buf (omega arith)

  pub part_slice : row_slice (take (n * 4) buf) ≡ false
  unfolding row_slice
  part_slice =
      let e : length (take (n * 4) buf) ≡ 4 * n = omega (arith, part_length) in
      let four : length (take (n * 4) buf) % 4 ≡ 0 = ap (λ (l : ℕ). l % 4) e ∙ mul-mod_right 4 n in
      let short : length (take (n * 4) buf) ≤ 16384 = omega (arith, part_length) in
      rw (eq-eqb _ 0 four, le-ltb 16384 _ short)

  pub part_rows : length (rows_in (take (n * 4) buf)) ≤ 4096
  part_rows = omega (arith, rows_short (take (n * 4) buf), part_length)

-- The table of n rows at the front of an array.
abbrev pub made_in : ℤ → ℕ → ℕ → ℕ → List ℤ → Made
made_in p k n s buf = record { table = table p k (take (n * 4) buf); states = s }

-- One more list is built, and then united.
pub join_is : (m : Made) (l : Lent)
    → join_lent m l ≡ then (build l.production l.tokens l.lengths 16384) (λ b. unite_made m b)
unfolding join_lent build_lent
join_is m l = refl

-- The next list is refused.
pub join_refused : (p : ℤ) (k n s : ℕ) (a : List ℤ) (l : Lent) (r : Result Heading Refusal) (f : Refusal) (b c : List ℤ)
    → r ≡ Err f → Holds (build l.production l.tokens l.lengths 16384) r b
    → Holds (then (held (Ok (record { prod0 = p; k = k; rows = n; states = s })) a) (λ m. join_lent m l)) r c
unfolding join_lent build_lent
join_refused p k n s a l r f b c e h =
    rw e (let g : refuse (number f) (detail f) ≡ build l.production l.tokens l.lengths 16384 =
    ap (λ (x : Result Heading Refusal). held x b) (sym e) ∙ h.is in record { is = rw (← g); few = tt })

module _ (p : ℤ) (k n s : ℕ) (a : List ℤ) (few : n ≤ 1023) (room : 4092 ≤ length a) where
  pub unite_as : (q : ℤ) (l m u : ℕ) (b : List ℤ) → m ≤ 1023 → 4092 ≤ length b →
      unite_made (made_in p k n s a) (made_in q l m u b) ≡ unite Intake p k (take (n * 4) a) q l (take (m * 4) b) 16384
  unfolding unite_made unite little_room
  unite_as q l m u b few' room' =
      rw (part_slice a n few room, part_slice b m few' room')
      (rw (
        slice_numbers (rows_in (take (n * 4) a)) (part_rows a n few room),
        slice_numbers (rows_in (take (m * 4) b)) (part_rows b m few' room'),
      )
      (rw (table_numbers (table p k (take (n * 4) a)), table_numbers (table q l (take (m * 4) b)))))

  pub shrink_as : (space : ℕ) → 16384 ≤ space →
      shrink Intake p k (take (n * 4) a) space ≡ shrink_made (made_in p k n s a)
  unfolding shrink_made shrink little_room
  shrink_as space h =
      rw (part_slice a n few room, le-ltb space 16384 h)
      (rw (slice_numbers (rows_in (take (n * 4) a)) (part_rows a n few room))
      (rw (table_numbers (table p k (take (n * 4) a)))))

  -- it is built, and then united
  pub join_built : (l : Lent) (q : ℤ) (j m u : ℕ) (b : List ℤ) → 4092 ≤ length b
      → Holds (build l.production l.tokens l.lengths 16384) (Ok (record { prod0 = q; k = j; rows = m; states = u })) b
      → (r : Result Heading Refusal) (c : List ℤ)
      → Holds (unite Intake p k (take (n * 4) a) q j (take (m * 4) b) 16384) r c
      → Holds (then (held (Ok (record { prod0 = p; k = k; rows = n; states = s })) a) (λ m. join_lent m l)) r c
  unfolding join_lent build_lent
  join_built l q j m u b room' h r c g =
      record { is = g.is ∙ sym (unite_as q j m u b h.few.0 room') ∙ rw (← h.is); few = g.few }

  -- the table is shrunk
  pub finish_made : (r : Result Heading Refusal) (old new : List ℤ) → 16384 ≤ length old →
      Makes (shrink Intake p k (take (n * 4) a) (length old)) r old new →
      Makes (then (held (Ok (record { prod0 = p; k = k; rows = n; states = s })) a) shrink_made) r old new
  finish_made r old new h m = rw (shrink_as (length old) h) at m
