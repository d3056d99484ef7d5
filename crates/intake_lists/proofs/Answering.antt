-- The call in its parts: 1, then the lists united, then shrink. Assumes nothing.
use mathlib.Core.Path.{◌≡◌, refl}
use mathlib.Core.Bool.{true, false}
use mathlib.Core.List.{List}
use Prim.Native.Nat.{ℕ}
use lib.IntN.{ℤ}
use Rattle.std.specs.Prelude.{Result, Err}
use Rattle.paper.specs.declared.Heading.{Heading}
use Rattle.paper.specs.declared.Refusal.{Refusal}
use Rattle.paper.specs.declared.Refusal.TheVariants as refusal
use Rattle.paper.specs.Answers.{Ruling, then, Made, Makes}
use Rattle.promises.specs.Demand.{shrink_made}
use Rattle.intake_lists.specs.Call.{lists_in, unite_all, lists_lengths, table_of}
use Rattle.intake_lists.specs.Held.{held, Holds}

pub shrunk_held : (g : Ruling Made) (united : Result Heading Refusal) (a : List ℤ) → Holds g united a →
    (r : Result Heading Refusal) (old new : List ℤ) → Makes (then (held united a) shrink_made) r old new →
    Makes (then g shrink_made) r old new
shrunk_held g united a h r old new m = rw h.is at m

-- a list was refused: so is the call
pub shrunk_refused : (g : Ruling Made) (f : Refusal) (a : List ℤ) → Holds g (Err f) a → (old : List ℤ)
    → Makes (then g shrink_made) (Err f) old old
shrunk_refused g f a h old = shrunk_held g (Err f) a h (Err f) old old (record { says = refl; holds = refl })

module _ (ps : List ℤ) (cs ns ts : List ℕ) (room : ℕ) (old : List ℤ) where
  pub refused_lengths : lists_lengths ps cs ns ts room ≡ true →
      Makes (table_of ps cs ns ts room) (Err refusal.Length) old old
  unfolding table_of
  refused_lengths e = rw e (record { says = refl; holds = refl })

  pub taken : lists_lengths ps cs ns ts room ≡ false → (r : Result Heading Refusal) (new : List ℤ) →
      Makes (then (unite_all (lists_in ps cs ns ts)) shrink_made) r old new →
      Makes (table_of ps cs ns ts room) r old new
  unfolding table_of
  taken e r new m = rw e m
