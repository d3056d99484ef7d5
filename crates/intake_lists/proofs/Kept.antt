-- An answer of build, unite or shrink whose rows were kept in an array holds what the call's ruling says.
-- Assumes nothing.
use mathlib.Core.Path.{◌≡◌, refl, ap, sym, ◌∙◌}
use mathlib.Core.Bool.{true}
use mathlib.Core.Option.{Option, none, some}
use mathlib.Core.List.{List, [], ◌∷◌}
use Prim.Native.Nat.{ℕ, ◌*◌, ◌^◌, ◌≤◌, ◌<◌}
use native.Mathlib.Omega.{arith}
use lib.ListN.{length, take, drop}
use lib.Seq.{take_at}
use lib.IntN.{ℤ}
use lib.Signed.{mag}
use borrow.Author.Tests.{leb-true}
use Rattle.laws.proofs.RowNumbers.{table_numbers, length_numbers}
use Rattle.paper.specs.declared.Mode.TheVariants.{Intake}
use Rattle.paper.specs.declared.Refusal.{Refusal}
use Rattle.std.specs.Prelude.{Result, Ok, Err}
use Rattle.paper.specs.declared.Heading.{Heading}
use Rattle.paper.specs.Rows.{Row, Table, signed, numbers, natural}
use Rattle.paper.specs.Answers.{Ruling, accept, refuse, number, detail, Made, Makes}
use Rattle.paper.specs.Checks.{production_fits}
use Rattle.paper.specs.Build.{add_string, add_strings, built, strings, build, build_lengths, build_range}
use Rattle.paper.specs.Unite.{unite}
use Rattle.trees.proofs.Accepted.{check_passed, within_accepted, unite_sound}
use Rattle.trees.proofs.Calls.{sound_size}
use Rattle.trees.proofs.Fits.{none_fits, some_fits, range_fits, root_give}
use Rattle.build_checks.proofs.Checked.{production_in}
use Rattle.intake_lists.specs.Held.{held, Few, Holds}

-- an accepting answer accepts
accepted : (g : Ruling Made) (p : ℤ) (k n s : ℕ) (old new : List ℤ) → Makes g (Ok (record { prod0 = p; k = k; rows = n; states = s })) old new →
    (m : Made) × (g ≡ accept m)
accepted (accept m) p k n s old new h = (m, refl)
accepted (refuse c d) p k n s old new h =
    let e = h.says in
    let z : ◌≡◌ {A = ℕ} 0 1 = cc in absurd (omega arith)

module _ (m : Made) (p : ℤ) (k n s : ℕ) (old new : List ℤ) (h : Makes (accept m) (Ok (record { prod0 = p; k = k; rows = n; states = s })) old new) where
  heading : ◌≡◌ {A = Heading} (record { prod0 = p; k = k; rows = n; states = s }) (record {
    prod0 = signed m.table.prod0;
    k = m.table.k;
    rows = length m.table.rows;
    states = m.states;
  })
  heading = let e = h.says in cc

  pub rows_count : n ≡ length m.table.rows
  rows_count = ap (λ (x : Heading). x.rows) heading

  pub same_prod0 : p ≡ signed m.table.prod0
  same_prod0 = ap (λ (x : Heading). x.prod0) heading

  pub same_k : k ≡ m.table.k
  same_k = ap (λ (x : Heading). x.k) heading

  pub same_states : s ≡ m.states
  same_states = ap (λ (x : Heading). x.states) heading

  pub front : take (n * 4) new ≡ numbers m.table.rows
  front =
      let rs : List Row = m.table.rows in
      let e : length (numbers rs) ≡ n * 4 = omega (arith, rows_count, length_numbers rs) in
      ap (take (n * 4)) h.holds ∙ take_at (numbers rs) (drop (length (numbers rs)) old) (n * 4) e

  held_accepted : (buf : List ℤ) → take (n * 4) buf ≡ take (n * 4) new →
      held (Ok (record { prod0 = p; k = k; rows = n; states = s })) buf ≡ accept m
  held_accepted buf e =
      let t : Table = m.table in
      rw (e, front, same_prod0, same_k, same_states, table_numbers t)

-- ---- what is accepted has few rows, and a prod0 that an i32 holds
pub signed_fits : (q : Option ℕ) → production_fits q ≡ true → mag (signed q) < 2 ^ 31
unfolding production_fits
signed_fits none e = omega arith
signed_fits (some q) e = omega (arith, leb-true q 65535 e)

string_root : (q : ℕ) (t : Table) (σ : List ℕ) → q ≤ 65535 → production_fits t.prod0 ≡ true →
    production_fits (add_string q t σ).prod0 ≡ true
unfolding add_string
string_root q t σ h e = root_give _ (some q) _ (some_fits q h) e

strings_root : (q : ℕ) (t : Table) (σs : List (List ℕ)) → q ≤ 65535 → production_fits t.prod0 ≡ true →
    production_fits (add_strings q t σs).prod0 ≡ true
unfolding add_strings
strings_root q t [] h e = e
strings_root q t (σ ∷ σs) h e = strings_root q (add_string q t σ) σs h (string_root q t σ h e)

built_root : (q : ℕ) (σs : List (List ℕ)) → q ≤ 65535 → production_fits (built q σs).prod0 ≡ true
unfolding built
built_root q [] h = some_fits q h
built_root q (σ ∷ σs) h = strings_root q _ (σ ∷ σs) h none_fits

abbrev pub Small : Ruling Made → Type 0
Small g = (m : Made) → g ≡ accept m → (length m.table.rows ≤ 1023) × (mag (signed m.table.prod0) < 2 ^ 31)

pub built_small : (p : ℤ) (ts ns : List ℕ) (room : ℕ) → Small (build p ts ns room)
unfolding build
built_small p ts ns room m e =
    let (_, e₁) = check_passed (build_lengths ts ns room) 1 _ m e in
    let (r, e₂) = check_passed (build_range p ns) 2 _ m e₁ in
    let (l, e₃) = within_accepted (built (natural p) (strings ns ts)) m e₂ in
    rw (← e₃) (omega (arith, l), signed_fits _ (built_root (natural p) (strings ns ts) (production_in p ns r)))

pub united_small : (p : ℤ) (k : ℕ) (ns : List ℤ) (q : ℤ) (l : ℕ) (ms : List ℤ) (room : ℕ) →
    Small (unite Intake p k ns q l ms room)
united_small p k ns q l ms room m e =
    let s = unite_sound Intake p k ns q l ms room m e in
    (omega (arith, sound_size m.table s), signed_fits _ (range_fits m.table s.ranged).root)

module _ (g : Ruling Made) (p : ℤ) (k n s : ℕ) (old new : List ℤ) (small : Small g)
    (h : Makes g (Ok (record { prod0 = p; k = k; rows = n; states = s })) old new) where
  pub made_few : Few (Ok (record { prod0 = p; k = k; rows = n; states = s }))
  made_few =
      let (m, e) = accepted g p k n s old new h in
      let i = rw e at h in (
        omega (arith, (small m e).0, rows_count m p k n s old new i),
        rw (same_prod0 m p k n s old new i) (small m e).1,
      )

  -- the rows are kept
  pub holds_made : (buf : List ℤ) → take (n * 4) buf ≡ take (n * 4) new → Holds g (Ok (record { prod0 = p; k = k; rows = n; states = s })) buf
  holds_made buf b =
      let (m, e) = accepted g p k n s old new h in
      record { is = held_accepted m p k n s old new (rw e at h) buf b ∙ sym e; few = made_few }

-- a refusal
refused : (g : Ruling Made) (f : Refusal) (old new : List ℤ) → Makes g (Err f) old new →
    refuse (number f) (detail f) ≡ g
refused (accept m) f old new h =
    let e = h.says in
    let z : ◌≡◌ {A = ℕ} 0 1 = cc in absurd (omega arith)
refused (refuse n d) f old new h = let e = h.says in cc
