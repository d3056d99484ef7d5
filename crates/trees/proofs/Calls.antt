-- The calls of demand 3's chain pass their checks: build of a bounded list, unite and shrink of trees within bounds.
-- Assumes nothing.
use mathlib.Core.Path.{◌≡◌}
use mathlib.Core.Bool.{false}
use mathlib.Core.List.Memᴰ
use mathlib.Core.List.{List, ◌++◌, map}
use Prim.Native.Nat.{ℕ, suc, ◌≤◌}
use native.Mathlib.Omega.{arith}
use lib.ListN.{length, length-map}
use lib.Dec.{ltb}
use borrow.Author.Tests.{le-ltb, le-leb, eq-eqb}
use Rattle.laws.proofs.Every.{any_false}
use Rattle.laws.proofs.RowNumbers.{table_numbers, slice_numbers}
use Rattle.laws.proofs.Cut.{strings_joined, sum_joined}
use Rattle.paper.specs.declared.Mode.{Mode}
use Rattle.paper.specs.declared.Mode.TheVariants.{Intake}
use Rattle.paper.specs.Rows.{Table, signed, numbers}
use Rattle.paper.specs.Answers.{Ruling, accept, Made}
use Rattle.paper.specs.Checks.{first, any, little_room, tree}
use Rattle.paper.specs.Build.{built, build, build_lengths, build_range, within}
use Rattle.paper.specs.Unite.{united, unite, unite_tables}
use Rattle.paper.specs.Shrink.{shrunk, shrink_table, shrink}
use Rattle.paper.specs.Lists.{Opening}
use Rattle.trees.specs.Trees.{Sound}
use Rattle.trees.specs.Bounds.{Bounded}
use Rattle.trees.specs.Chain.{build_list, unite_made}
use Rattle.trees.proofs.Checked.{passes_tree}
use Rattle.trees.proofs.Fits.{range_size}

-- A made tree with its state count.
abbrev pub counted : Table → Made
counted t = record { table = t; states = suc (length t.rows) }

pub within_accepts : (t : Table) → suc (length t.rows) ≤ 1024 → within t ≡ accept (counted t)
unfolding within
within_accepts t l = rw (le-ltb 1024 (suc (length t.rows)) l)

pub build_accepts : (l : Opening) → Bounded l → suc (length (built l.production l.strings).rows) ≤ 1024 →
    build_list l ≡ accept (counted (built l.production l.strings))
unfolding build_list build build_lengths build_range little_room
build_accepts l b size =
    let lengths : List ℕ = map (λ σ. length σ) l.strings in
    let few : ltb 1024 (length lengths) ≡ false =
    le-ltb 1024 (length lengths) (omega (arith, b.count, length-map l.strings (λ σ. length σ))) in
    let summed = eq-eqb _ _ (sum_joined l.strings) in
    let fits = le-leb l.production 65535 b.number in
    let short : any (λ n. ltb 16 n) lengths ≡ false = any_false (λ n. ltb 16 n) lengths (λ n i.
    let (σ, j, e) = Memᴰ.of_map (λ σ. length σ) l.strings i in
    le-ltb 16 n (omega (arith, b.short.size σ j, e))) in
    rw (few, summed, fits, short, strings_joined) (within_accepts (built l.production l.strings) size)

-- two sound tables pass the checks
pub trees_pass : (a b : Table) → Sound a → Sound b → (r : Ruling Made) → first (tree a ++ tree b) r ≡ r
trees_pass a b s u r =
    let t = s.treed in
    let v = u.treed in
    rw (s.ranged, t.ordered, t.shaped, t.held, t.whole, t.once)
    (rw (u.ranged, v.ordered, v.shaped, v.held, v.whole, v.once))

pub sound_size : (t : Table) → Sound t → suc (length t.rows) ≤ 1024
sound_size t s = range_size t (passes_tree t s.treed) s.ranged

pub unite_accepts : (a b : Made) → Sound a.table → Sound b.table →
    unite_made a b ≡ united Intake a.table b.table
unfolding unite_made unite unite_tables little_room
unite_accepts a b s u =
    let few_a : length a.table.rows ≤ 4096 = omega (arith, sound_size a.table s) in
    let few_b : length b.table.rows ≤ 4096 = omega (arith, sound_size b.table u) in
    rw (slice_numbers a.table.rows few_a, slice_numbers b.table.rows few_b)
    (rw (table_numbers a.table, table_numbers b.table)
    (trees_pass a.table b.table s u (united Intake a.table b.table)))

-- shrink too takes a tree within bounds
pub shrink_accepts : (mode : Mode) (t : Table) → Sound t →
    shrink mode (signed t.prod0) t.k (numbers t.rows) 16384 ≡ accept (shrunk mode t)
unfolding shrink shrink_table little_room
shrink_accepts mode t s =
    let h = s.treed in
    let few : length t.rows ≤ 4096 = omega (arith, sound_size t s) in
    rw (slice_numbers t.rows few, table_numbers t)
    (rw (s.ranged, h.ordered, h.shaped, h.held, h.whole))
