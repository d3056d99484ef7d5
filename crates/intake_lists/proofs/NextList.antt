-- The lists that are left: the first one, and what follows it. Assumes nothing.
use mathlib.Core.Path.{◌≡◌, refl, ap, ◌∙◌}
use mathlib.Core.List.{List, [], ◌∷◌}
use Prim.Native.Nat.{ℕ, zero, suc, ◌+◌, ◌≤◌}
use native.Mathlib.Omega.{arith}
use lib.ListN.{length, take, drop, length-drop}
use lib.IntN.{ℤ}
use Rattle.paper.specs.Answers.{Ruling, accept, refuse, then, Made}
use Rattle.std.specs.List as std
use Rattle.std.proofs.lemmas.List.Sums.{sum_by-cons}
use Rattle.paper.specs.Build.{sum}
use Rattle.intake_lists.specs.Call.{Lent, lists_in, join_lent, join_all}
use Rattle.intake_lists.specs.Held.{Summed}

-- the library's sum is the document's
pub same_sum : (ns : List ℕ) → std.sum ns ≡ sum ns
unfolding sum
same_sum [] = refl
same_sum (n ∷ ns) = sum_by-cons (λ x. x) n ns ∙ ap (λ m. n + m) (same_sum ns)

sum_split : (c : ℕ) (ns : List ℕ) → sum (take c ns) + sum (drop c ns) ≡ sum ns
unfolding sum
sum_split zero ns = omega arith
sum_split (suc c) [] = refl
sum_split (suc c) (n ∷ ns) = omega (arith, sum_split c ns)

sum_cons : (c : ℕ) (cs : List ℕ) → sum (c ∷ cs) ≡ c + sum cs
unfolding sum
sum_cons c cs = refl

-- no production, no list
pub no_list : (ps : List ℤ) (cs ns ts : List ℕ) → length ps ≡ 0 → lists_in ps cs ns ts ≡ []
unfolding lists_in
no_list [] cs ns ts e = refl
no_list (p ∷ ps) cs ns ts e = absurd (omega (arith, e))

module _ (p : ℤ) (ps : List ℤ) (c : ℕ) (cs ns ts : List ℕ) where
  pub next_list : lists_in (p ∷ ps) (c ∷ cs) ns ts
      ≡ record { production = p; lengths = take c ns; tokens = take (sum (take c ns)) ts }
      ∷ lists_in ps cs (drop c ns) (drop (sum (take c ns)) ts)
  unfolding lists_in
  next_list = refl

  module _ (summed : Summed (p ∷ ps) (c ∷ cs) ns ts) where
    -- the first list's lengths and tokens are there
    pub lengths_there : c ≤ length ns
    lengths_there = omega (arith, summed.strings, sum_cons c cs)

    pub tokens_there : sum (take c ns) ≤ length ts
    tokens_there = omega (arith, summed.tokens, sum_split c ns)

    -- the others' sum up
    pub next_summed : Summed ps cs (drop c ns) (drop (sum (take c ns)) ts)
    next_summed = record {
      each = omega (arith, summed.each);
      strings = omega (arith, summed.strings, sum_cons c cs, length-drop c ns);
      tokens = omega (arith, summed.tokens, sum_split c ns, length-drop (sum (take c ns)) ts);
    }

-- one list first, then the others
pub join_then : (g : Ruling Made) (l : Lent) (ls : List Lent) →
    then g (λ m. join_all m (l ∷ ls)) ≡ then (then g (λ m. join_lent m l)) (λ m. join_all m ls)
unfolding join_all
join_then (accept a) l ls = refl
join_then (refuse n d) l ls = refl

-- no list is left
pub join_none : (g : Ruling Made) → then g (λ m. join_all m []) ≡ g
unfolding join_all
join_none (accept a) = refl
join_none (refuse n d) = refl
