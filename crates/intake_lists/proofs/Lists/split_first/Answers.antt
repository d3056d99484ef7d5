use mathlib.Core.Path.{◌≡◌, refl, ◌∙◌}
use mathlib.Core.List.{List, ◌∷◌}
use Prim.Native.Nat.{ℕ, ◌≤◌}
use borrow.Author.Rules.{rules}
use lib.ListN.{length, take, drop}
use lib.IntN.{ℤ}
use mir.Syntax.{w32}
use mir.Facts.{to_z-of_z}
use Rattle.paper.specs.Build.{sum}
use Rattle.intake_lists.specs.Call.{lists_in}
use Rattle.intake_lists.specs.Held.{Summed}
use Rattle.intake_lists.proofs.NextList.{same_sum, next_list, lengths_there, tokens_there, next_summed}
use Rattle.intake_lists.proofs.Lists.split_first.Goals as goal

module _ (p : ℤ) (ps : List ℤ) (n : ℕ) (cs ns ts : List ℕ) (s : Summed (p ∷ ps) (n ∷ cs) ns ts)
    (front back : List ℕ) (t : ℕ) (f : front ≡ take n ns) (b : back ≡ drop n ns) (e : t ≡ sum front) where
  split_tokens : sum front ≤ length ts
  split_tokens = rw f (tokens_there p ps n cs ns ts s)

  split_summed : (rest : List ℕ) → rest ≡ drop t ts → Summed ps cs back rest
  split_summed rest r = rw (r, e, f, b) (next_summed p ps n cs ns ts s)

  split_lists : (part rest : List ℕ) → part ≡ take t ts → rest ≡ drop t ts → lists_in (p ∷ ps) (n ∷ cs) ns ts
      ≡ record { production = p; lengths = front; tokens = part } ∷ lists_in ps cs back rest
  split_lists part rest q r = rw (q, r, e, f, b) (next_list p ps n cs ns ts)

pub split_at-requires : goal.split_at-requires
split_at-requires c =
    let s = rw (c.in_ok-production.ensures.cases.0, c.in_ok-count.ensures.cases.0) at c.args.self.summed in
    lengths_there _ _ _ _ _ _ s

pub total-requires : goal.total-requires
total-requires c =
    let s = rw (c.in_ok-production.ensures.cases.0, c.in_ok-count.ensures.cases.0) at c.args.self.summed in
    rw (same_sum c.split_at.result.0.now)
    (split_tokens _ _ _ _ _ _ s _ _ _ c.split_at.ensures.front c.split_at.ensures.back refl)

pub split_at-requires-2 : goal.split_at-requires-2
split_at-requires-2 c =
    let s = rw (c.in_ok-production.ensures.cases.0, c.in_ok-count.ensures.cases.0) at c.args.self.summed in
    rw (c.total.ensures, same_sum c.split_at.result.0.now) (split_tokens _ _ _ _ _ _ s _ _ _ c.split_at.ensures.front c.split_at.ensures.back refl)

pub invariant_of-result : goal.invariant_of-result
invariant_of-result c =
    let s = rw (c.in_ok-production.ensures.cases.0, c.in_ok-count.ensures.cases.0) at c.args.self.summed in
    record {
      summed = split_summed _ _ _ _ _ _ s _ _ _ c.split_at.ensures.front c.split_at.ensures.back (c.total.ensures ∙ same_sum c.split_at.result.0.now) _
          c.split_at-2.ensures.back;
    }

pub returns : goal.returns
returns c =
    let s = rw (c.in_ok-production.ensures.cases.0, c.in_ok-count.ensures.cases.0) at c.args.self.summed in
    let e = split_lists _ _ _ _ _ _ s _ _ _ c.split_at.ensures.front c.split_at.ensures.back (c.total.ensures ∙ same_sum c.split_at.result.0.now) _ _
    c.split_at-2.ensures.front c.split_at-2.ensures.back in
    let z = to_z-of_z {w = w32} {z = c.in_ok-production.production.now} (search rules) in
    rw (c.in_ok-production.ensures.cases.0, c.in_ok-count.ensures.cases.0) (rw z e, refl)
