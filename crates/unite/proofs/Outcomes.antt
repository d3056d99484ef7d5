-- Unite in its parts: 1, the checks of each table, state 0, the rows, 14.
-- Assumes nothing.
use mathlib.Core.Path.{◌≡◌, refl, sym, subst}
use mathlib.Core.Bool.{Bool, true, false, ◌||◌}
use mathlib.Core.List.{List, [], ◌∷◌}
use Prim.Native.Nat.{ℕ, ◌<◌, ◌≤◌}
use borrow.Author.Tests.{lt-ltb, le-ltb}
use lib.IntN.{ℤ}
use Rattle.std.specs.Prelude.{Result, Err}
use Rattle.paper.specs.declared.Mode.{Mode}
use Rattle.paper.specs.declared.Heading.{Heading}
use Rattle.paper.specs.declared.Refusal.{Refusal}
use Rattle.paper.specs.declared.Refusal.TheVariants.{Full, Length}
use Rattle.paper.specs.Rows.{Row, table}
use Rattle.paper.specs.Answers.{Ruling, Made, Makes}
use Rattle.paper.specs.Checks.{first, row_slice, little_room, tree}
use Rattle.paper.specs.Unite.{united, unite_tables, unite}
use Rattle.row_checks.specs.Verdicts.{Judges, Passes, sized}
use Rattle.row_checks.proofs.Judged.{judged, passing}
use Rattle.grow_laws.proofs.Answered.{within_full}
use Rattle.unite_taking.specs.Taking.{Overflows, Accepts, Refuses}

-- ---- a 1,024th row
pub full_refuses : {mode : Mode} {xs ys : List Row} → Overflows mode xs ys → Accepts mode xs ys
    → Refuses mode xs ys (Err Full)
full_refuses o a = record {
  is = λ z k old.
      let (u, e) = a.is z k in
      rw (e, within_full u.table (o.is z k u e)) (record { says = refl; holds = refl });
}

-- ---- the checks, one after the other
module _ (x : Ruling Made) {cs : List (Bool × ℕ)} (old : List ℤ) where
  pub checks_refuse : {A : Type 0} (f : Refusal) → Judges {A = A} cs (Err f) → Makes (first cs x) (Err f) old old
  checks_refuse f j = subst (λ (g : Ruling Made). Makes g (Err f) old old) (sym (judged x j))
      (record { says = refl; holds = refl })

  pub checks_pass : Passes cs → (r : Result Heading Refusal) (new : List ℤ) → Makes x r old new
      → Makes (first cs x) r old new
  checks_pass p r new m = subst (λ (g : Ruling Made). Makes g r old new) (sym (passing x p)) m

-- 1 for everything is 1 for each
pub each_first : (a b c : Bool) (x : Ruling Made)
    → first ((a || (b || c), 1) ∷ []) x ≡ first ((a, 1) ∷ []) (first ((b, 1) ∷ []) (first ((c, 1) ∷ []) x))
each_first true b c x = refl
each_first false true c x = refl
each_first false false c x = refl

module _ (mode : Mode) (p : ℤ) (k : ℕ) (ns : List ℤ) (q : ℤ) (l : ℕ) (ms : List ℤ) (room : ℕ) where
  -- what is left to do once 1 passed
  abbrev pub tables : Ruling Made
  tables = first (tree (table p k ns)) (first (tree (table q l ms)) (united mode (table p k ns) (table q l ms)))

  -- the check 1 of the output
  abbrev pub roomy : Ruling Made
  roomy = first ((little_room room, 1) ∷ []) tables

  pub all_checks : unite mode p k ns q l ms room ≡ first (sized ns) (first (sized ms) roomy)
  unfolding unite unite_tables
  all_checks = each_first (row_slice ns) (row_slice ms) (little_room room) tables

  module _ (old : List ℤ) where
    -- each check refuses in its turn
    pub at_first : {A : Type 0} (f : Refusal) → Judges {A = A} (sized ns) (Err f)
        → Makes (unite mode p k ns q l ms room) (Err f) old old
    at_first f j = rw all_checks (checks_refuse (first (sized ms) roomy) old f j)

    module _ (a : Passes (sized ns)) where
      past_first : (r : Result Heading Refusal) (new : List ℤ) → Makes (first (sized ms) roomy) r old new
          → Makes (unite mode p k ns q l ms room) r old new
      past_first r new m = rw all_checks (checks_pass (first (sized ms) roomy) old a r new m)

      pub at_second : {A : Type 0} (f : Refusal) → Judges {A = A} (sized ms) (Err f)
          → Makes (unite mode p k ns q l ms room) (Err f) old old
      at_second f j = past_first (Err f) old (checks_refuse roomy old f j)

      module _ (b : Passes (sized ms)) where
        past_second : (r : Result Heading Refusal) (new : List ℤ) → Makes roomy r old new
            → Makes (unite mode p k ns q l ms room) r old new
        past_second r new m = past_first r new (checks_pass roomy old b r new m)

        pub at_room : room < 16384 → Makes (unite mode p k ns q l ms room) (Err Length) old old
        unfolding little_room
        at_room h = past_second (Err Length) old (rw (lt-ltb room 16384 h) (record { says = refl; holds = refl }))

        module _ (h : 16384 ≤ room) where
          past_room : (r : Result Heading Refusal) (new : List ℤ) → Makes tables r old new
              → Makes (unite mode p k ns q l ms room) r old new
          unfolding little_room
          past_room r new m = past_second r new (rw (le-ltb room 16384 h) m)

          pub at_first_tree : {A : Type 0} (f : Refusal) → Judges {A = A} (tree (table p k ns)) (Err f)
              → Makes (unite mode p k ns q l ms room) (Err f) old old
          at_first_tree f j = past_room (Err f) old (checks_refuse _ old f j)

          module _ (c : Passes (tree (table p k ns))) where
            past_first_tree : (r : Result Heading Refusal) (new : List ℤ)
                → Makes (first (tree (table q l ms)) (united mode (table p k ns) (table q l ms))) r old new
                → Makes (unite mode p k ns q l ms room) r old new
            past_first_tree r new m = past_room r new (checks_pass _ old c r new m)

            pub at_second_tree : {A : Type 0} (f : Refusal) → Judges {A = A} (tree (table q l ms)) (Err f)
                → Makes (unite mode p k ns q l ms room) (Err f) old old
            at_second_tree f j = past_first_tree (Err f) old (checks_refuse _ old f j)

            pub past_checks : Passes (tree (table q l ms)) → (r : Result Heading Refusal) (new : List ℤ)
                → Makes (united mode (table p k ns) (table q l ms)) r old new
                → Makes (unite mode p k ns q l ms room) r old new
            past_checks d r new m = past_first_tree r new (checks_pass _ old d r new m)
