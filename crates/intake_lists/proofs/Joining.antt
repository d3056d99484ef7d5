-- The lists joined one after the other: the first of them, one turn, and the end. Assumes nothing.
use mathlib.Core.Path.{◌≡◌, refl, ap, sym, ◌∙◌}
use mathlib.Core.List.{List, [], ◌∷◌}
use Prim.Native.Nat.{ℕ}
use lib.ListN.{length}
use lib.IntN.{ℤ}
use Rattle.std.specs.Prelude.{Result, Ok, Err}
use Rattle.paper.specs.declared.Heading.{Heading}
use Rattle.paper.specs.declared.Refusal.{Refusal}
use Rattle.paper.specs.declared.Refusal.TheVariants as refusal
use Rattle.paper.specs.Answers.{Ruling, accept, then, Made}
use Rattle.intake_lists.specs.Call.{Lent, lists_in, build_lent, join_lent, join_all, unite_all}
use Rattle.intake_lists.specs.Held.{held, Holds}
use Rattle.intake_lists.proofs.NextList.{no_list, join_then, join_none}

-- the first of the lists that are left is joined, then the others
pub first_joined : (m : Made) (l : Lent) (ls : List Lent)
    → join_all m (l ∷ ls) ≡ then (join_lent m l) (λ c. join_all c ls)
first_joined m l ls = join_then (accept m) l ls

-- no list is left
pub none_left : (m : Made) (ps : List ℤ) (cs ns ts : List ℕ) → length ps ≡ 0
    → join_all m (lists_in ps cs ns ts) ≡ accept m
none_left m ps cs ns ts e = rw (no_list ps cs ns ts e) (join_none (accept m))

-- what there is, joined with the lists that are left
module _ (g : Ruling Made) (l : Lent) (ls : List Lent) where
  joined : (r : Result Heading Refusal) (a : List ℤ) → Holds (then g (λ m. join_lent m l)) r a
      → then (held r a) (λ m. join_all m ls) ≡ then g (λ m. join_all m (l ∷ ls))
  joined r a s = ap (λ (x : Ruling Made). then x (λ m. join_all m ls)) s.is ∙ sym (join_then g l ls)

  pub joined_next : (h : Heading) (a : List ℤ) → Holds (then g (λ m. join_lent m l)) (Ok h) a
      → then (held (Ok h) a) (λ m. join_all m ls) ≡ then g (λ m. join_all m (l ∷ ls))
  joined_next h a s = joined (Ok h) a s

  pub joined_refused : (f : Refusal) (a b : List ℤ) → Holds (then g (λ m. join_lent m l)) (Err f) a
      → Holds (then g (λ m. join_all m (l ∷ ls))) (Err f) b
  joined_refused f a b s = record { is = joined (Err f) a s; few = tt }

pub joined_all : (g : Ruling Made) (h : Heading) (a : List ℤ) → then (held (Ok h) a) (λ m. join_all m []) ≡ g
    → held (Ok h) a ≡ g
joined_all g h a e = sym (join_none (held (Ok h) a)) ∙ e

-- no list is no table
pub none_refused : (ls : List Lent) → ls ≡ [] → (b : List ℤ) → Holds (unite_all ls) (Err refusal.Length) b
unfolding unite_all
none_refused ls e b = rw e (record { is = refl; few = tt })

-- the first list is built, the others are joined to it
module _ (l : Lent) (ls : List Lent) where
  pub first_refused : (f : Refusal) (a b : List ℤ) → Holds (build_lent l) (Err f) a
      → Holds (unite_all (l ∷ ls)) (Err f) b
  unfolding unite_all
  first_refused f a b s = record { is = ap (λ (r : Ruling Made). then r (λ m. join_all m ls)) s.is; few = tt }

  pub all_joined : (h : Heading) (a : List ℤ) → Holds (build_lent l) (Ok h) a → (r : Result Heading Refusal) (b : List ℤ)
      → Holds (then (held (Ok h) a) (λ m. join_all m ls)) r b → Holds (unite_all (l ∷ ls)) r b
  unfolding unite_all
  all_joined h a s r b t = rw (← s.is) t
