-- States that all have their marks are marked, and a mark is the highest state of its class.
-- Assumes that each state's mark is no lower than the state.
use mathlib.Core.Path.{◌≡◌, sym, ap, ◌∙◌}
use mathlib.Core.Bool.{true, false}
use mathlib.Core.List.{List, []}
use Prim.Native.Nat.{ℕ}
use Rattle.paper.specs.declared.Mode.{Mode}
use Rattle.paper.specs.Rows.{Table}
use Rattle.paper.specs.Shrink.{rows_of, redirect}
use Rattle.rows.proofs.Rest.{by_test}
use Rattle.merging.specs.Marks.{compared, source_of, Alike, Marks}
use Rattle.merging.proofs.OnePass.{source_is_mark}
use Rattle.shrink_alike.specs.Faces.{mark_in, production_at, counted}
use Rattle.shrink_alike.specs.States.{State}
use Rattle.shrink_classes.specs.Classes.{Like, Settled, Classes}
use Rattle.shrink_classes.proofs.Settling.{like_sym}

module _ (mode : Mode) (t : Table) (mark : ℕ → ℕ) where
  rows_where : (s : ℕ) → compared mode (production_at t s) ≡ true
      → counted mode t mark s ≡ redirect mark (rows_of t.rows s)
  unfolding counted
  rows_where s e = rw e

  rows_nowhere : (s : ℕ) → compared mode (production_at t s) ≡ false → counted mode t mark s ≡ []
  unfolding counted
  rows_nowhere s e = rw e

  like_alike : (a b : ℕ) → Like mode t mark a b → Alike mode t mark a b
  like_alike a b w = record {
    production = w.production;
    rows = λ e. sym (rows_where a e) ∙ w.rows ∙ rows_where b (ap (compared mode) (sym w.production) ∙ e);
  }

  alike_like : (a b : ℕ) → Alike mode t mark a b → Like mode t mark a b
  alike_like a b w = record {
    production = w.production;
    rows = by_test (compared mode (production_at t a))
        (λ e. rows_where a e ∙ w.rows e ∙ sym (rows_where b (ap (compared mode) (sym w.production) ∙ e)))
        (λ e. rows_nowhere a e ∙ sym (rows_nowhere b (ap (compared mode) (sym w.production) ∙ e)));
  }

  like_on : (a b c : ℕ) → Like mode t mark a b → Like mode t mark b c → Like mode t mark a c
  like_on a b c v w = record { production = v.production ∙ w.production; rows = v.rows ∙ w.rows }

  settled_marks : Settled mode t mark (State t) → Marks mode t mark
  settled_marks S = record {
    one = λ a b i j e. like_alike a b
        (like_on a (mark a) b (S.alike a i)
        (rw (← e) at (like_sym mode t mark b (mark b) (S.alike b j))));
    two = λ a b i j w.
        let p = S.kept a i in
        let q = S.kept b j in
        S.unlike (mark a) (mark b) p.0 q.0 p.1 q.1
        (like_on (mark a) a (mark b) (like_sym mode t mark a (mark a) (S.alike a i))
        (like_on a b (mark b) (alike_like a b w) (S.alike b j)));
  }

module _ {mode : Mode} {t : Table} {class : List ℕ} (k : Classes mode t class) where
  pub class_marks : Marks mode t (mark_in class)
  class_marks = settled_marks mode t (mark_in class) k.settled

  pub class_state : (s : ℕ) → State t s → State t (mark_in class s)
  class_state s i = (k.settled.kept s i).0

  -- the rows that a head takes are those of its mark
  pub class_source : (s : ℕ) → State t s → source_of (mark_in class) t s ≡ mark_in class s
  class_source = source_is_mark t (mark_in class)
      (λ a i. let h = k.settled.kept a i in (h.0, h.1, k.highest a i))
