-- Of lists that are lent as the call takes them, the call makes what demand 3's chain of calls makes. Assumes nothing.
use mathlib.Core.Path.{◌≡◌, refl, ap, sym, ◌∙◌}
use mathlib.Core.Bool.{false}
use mathlib.Core.List.{List, [], ◌∷◌, ◌++◌, map}
use Prim.Native.Nat.{ℕ, ◌+◌, ◌≤◌}
use native.Mathlib.Omega.{arith}
use lib.ListN.{length, length-append, length-map}
use lib.Seq.{take_at, drop_at}
use lib.IntN.{pos}
use borrow.Author.Tests.{le-ltb, eq-eqb, ne_eqb}
use Rattle.laws.proofs.Cut.{sum_joined}
use Rattle.paper.specs.Answers.{Ruling, accept, refuse, then, Made}
use Rattle.paper.specs.Checks.{little_room}
use Rattle.paper.specs.Build.{joined, sum}
use Rattle.paper.specs.Lists.{Opening}
use Rattle.trees.specs.Chain.{build_list, unite_made, unite_rest, chain}
use Rattle.promises.specs.Demand.{shrink_made, calls}
use Rattle.intake_lists.specs.Call.{
  Lent,
  lists_in,
  build_lent,
  join_lent,
  join_all,
  unite_all,
  lists_lengths,
  table_of,
}
use Rattle.intake_lists.specs.Lends.{productions_of, counts_of, lengths_of, tokens_of, call_of}

-- ---- the check
sum_append : (xs ys : List ℕ) → sum (xs ++ ys) ≡ sum xs + sum ys
unfolding sum
sum_append [] ys = omega arith
sum_append (x ∷ xs) ys = omega (arith, sum_append xs ys)

abbrev sizes : List (List ℕ) → List ℕ
sizes σs = map (λ σ. length σ) σs

counts_sum : (ls : List Opening) → sum (counts_of ls) ≡ length (lengths_of ls)
unfolding sum counts_of lengths_of
counts_sum [] = refl
counts_sum (l ∷ ls) = omega (
  arith,
  counts_sum ls,
  length-append (sizes l.strings) (lengths_of ls),
  length-map l.strings (λ σ. length σ),
)

lengths_sum : (ls : List Opening) → sum (lengths_of ls) ≡ length (tokens_of ls)
unfolding sum lengths_of tokens_of
lengths_sum [] = refl
lengths_sum (l ∷ ls) = omega (
  arith,
  lengths_sum ls,
  sum_append (sizes l.strings) (lengths_of ls),
  length-append (joined l.strings) (tokens_of ls),
  sum_joined l.strings,
)

as_many : (ls : List Opening) → length (productions_of ls) ≡ length (counts_of ls)
unfolding productions_of counts_of
as_many ls = length-map ls (λ l. pos l.production) ∙ sym (length-map ls (λ l. length l.strings))

some_list : (l : Opening) (ls : List Opening) → length (productions_of (l ∷ ls)) ≡ 0 → ⊥
unfolding productions_of
some_list l ls e = omega arith

lent_lengths : (l : Opening) (ls : List Opening) (room : ℕ) → 16384 ≤ room →
    lists_lengths (productions_of (l ∷ ls)) (counts_of (l ∷ ls)) (lengths_of (l ∷ ls)) (tokens_of (l ∷ ls)) room ≡ false
unfolding lists_lengths little_room
lent_lengths l ls room h =
    let all : List Opening = l ∷ ls in
    rw (
      le-ltb room 16384 h,
      ne_eqb _ 0 (some_list l ls),
      eq-eqb _ _ (as_many all),
      eq-eqb _ _ (counts_sum all),
      eq-eqb _ _ (lengths_sum all),
    )

-- ---- the lists
abbrev as_lent : Opening → Lent
as_lent l = record { production = pos l.production; lengths = sizes l.strings; tokens = joined l.strings }

lists_lent : (ls : List Opening) →
    lists_in (productions_of ls) (counts_of ls) (lengths_of ls) (tokens_of ls) ≡ map as_lent ls
unfolding lists_in productions_of counts_of lengths_of tokens_of
lists_lent [] = refl
lists_lent (l ∷ ls) =
    let n = length l.strings in
    let counted : length (sizes l.strings) ≡ n = length-map l.strings (λ σ. length σ) in
    let front = take_at (sizes l.strings) (lengths_of ls) n counted in
    let summed : length (joined l.strings) ≡ sum (sizes l.strings) = sym (sum_joined l.strings) in
    rw (
      front,
      drop_at (sizes l.strings) (lengths_of ls) n counted,
      take_at (joined l.strings) (tokens_of ls) (sum (sizes l.strings)) summed,
      drop_at (joined l.strings) (tokens_of ls) (sum (sizes l.strings)) summed,
    )
    (ap (λ (x : List Lent). as_lent l ∷ x) (lists_lent ls))

-- ---- the steps
then_then : {A B C : Type 0} (g : Ruling A) (f : A → Ruling B) (k : B → Ruling C) →
    then (then g f) k ≡ then g (λ a. then (f a) k)
then_then (accept a) f k = refl
then_then (refuse n d) f k = refl

join_rest : (ls : List Opening) (a : Made) → join_all a (map as_lent ls) ≡ unite_rest a ls
unfolding join_all join_lent build_lent unite_rest build_list
join_rest [] a = refl
join_rest (l ∷ ls) a =
    let k : ◌≡◌ {A = Made → Ruling Made} (λ c. join_all c (map as_lent ls)) (λ c. unite_rest c ls) =
    λ i c. join_rest ls c i in
    then_then (build_list l) (λ b. unite_made a b) (λ c. join_all c (map as_lent ls))
    ∙ ap (λ (f : Made → Ruling Made). then (build_list l) (λ b. then (unite_made a b) f)) k

unite_chain : (l : Opening) (ls : List Opening) → unite_all (map as_lent (l ∷ ls)) ≡ chain l ls
unfolding unite_all build_lent chain build_list
unite_chain l ls =
    let k : ◌≡◌ {A = Made → Ruling Made} (λ a. join_all a (map as_lent ls)) (λ a. unite_rest a ls) =
    λ i a. join_rest ls a i in
    ap (then (build_list l)) k

pub call_calls : (l : Opening) (ls : List Opening) (room : ℕ) → 16384 ≤ room → call_of (l ∷ ls) room ≡ calls l ls
unfolding table_of calls
call_calls l ls room h = rw (lent_lengths l ls room h)
    (ap (λ (g : Ruling Made). then g shrink_made) (ap unite_all (lists_lent (l ∷ ls)) ∙ unite_chain l ls))
