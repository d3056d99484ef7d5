-- Intake shrink leaves no state that is not reached: a row into a state leaves a lower one, and its image is a row
-- of the shrunk table. Assumes marks of a ruled table (`order`, `shape`, `loose` and `split` do not refuse).
use mathlib.Core.Path.{◌≡◌, refl, sym, ◌∙◌, ap, subst}
use mathlib.Core.Logic.{⊎_elim}
use mathlib.Core.Bool.{false}
use mathlib.Core.Option.{Option, none, some, map, some-injective}
use mathlib.Core.List.{List, [], ◌∷◌, ◌++◌}
use Prim.Native.Nat.{ℕ, zero, suc, ◌<◌}
use native.Mathlib.Omega.{arith}
use lib.ListN.{length, length-append}
use borrow.Author.Tests.{not-false}
use Rattle.laws.proofs.Tests.{never}
use Rattle.laws.proofs.Members.{In}
use Rattle.laws.proofs.RowsRise.{rising_rise}
use Rattle.laws.proofs.Find.{find_in, in_find}
use Rattle.paper.specs.declared.Mode.TheVariants.{Intake}
use Rattle.paper.specs.Rows.{Row, Table, find, states}
use Rattle.paper.specs.Checks.{rising, order, shape, loose, split}
use Rattle.paper.specs.Predict.{Walk, go_by, step, walk, start}
use Rattle.merging.specs.Marks.{heads_of, place_of, place_among, marked_rows, Marks}
use Rattle.merging.specs.Reach.{Reached}
use Rattle.merging.proofs.Ends.{in_heads}
use Rattle.merging.proofs.States.{zero_state, to_state, in_states}
use Rattle.merging.proofs.Ruled.{rows_climb, from_state}
use Rattle.merging.proofs.Places.{place_onto}
use Rattle.merging.proofs.Shrunk.{heads_ascending, zero_place}
use Rattle.merging.proofs.Reached as image

-- ---- of any rows
walk_further : (rs : List Row) (σ : List ℕ) (u : ℕ) (w : Walk) → walk rs (σ ++ u ∷ []) w ≡ step rs u (walk rs σ w)
unfolding walk
walk_further rs [] u w = refl
walk_further rs (t ∷ σ) u w = walk_further rs σ u (step rs t w)

pub zero_reached : (rs : List Row) → Reached rs 0
unfolding walk start
zero_reached rs = record { tokens = []; leads = refl; enters = refl }

-- a row from a state that is reached leads to one
pub reached_on : (rs : List Row) (s u : ℕ) (r : Row) → Reached rs s → find rs s u ≡ some r → Reached rs r.to
unfolding step go_by
reached_on rs s u r h e =
    let w : Walk = walk rs h.tokens start in
    let found : find rs w.state u ≡ some r = rw h.leads e in
    let further : walk rs (h.tokens ++ u ∷ []) start ≡ go_by w (some r) =
    walk_further rs h.tokens u start ∙ ap (go_by w) found in
    record {
      tokens = h.tokens ++ u ∷ [];
      leads = ap (λ (x : Walk). x.state) further;
      enters = ap (λ (x : Walk). x.entered) further ∙ ap suc h.enters
          ∙ omega (arith, length-append h.tokens (u ∷ []));
    }

-- what is reached is a state of the table
pub reached_state : (rs : List Row) (s : ℕ) → Reached rs s → In s (states rs)
unfolding start walk step go_by
reached_state rs s h = subst (λ (x : ℕ). In x (states rs)) h.leads (walks h.tokens start (zero_state rs))
  where
    goes : (w : Walk) (u : ℕ) (o : Option Row) → find rs w.state u ≡ o → In w.state (states rs) →
        In (go_by w o).state (states rs)
    goes w u none e i = i
    goes w u (some r) e i = to_state rs r (find_in rs w.state u r e).0

    walks : (σ : List ℕ) (w : Walk) → In w.state (states rs) → In (walk rs σ w).state (states rs)
    walks [] w i = i
    walks (u ∷ σ) w i = walks σ (step rs u w) (goes w u (find rs w.state u) refl i)

-- ---- of the table of some marks
module _ (t : Table) (ordered : order t ≡ false) (climbs : shape t ≡ false) (rooted : loose t ≡ false)
    (whole : split t ≡ false) (mark : ℕ → ℕ) (k : Marks Intake t mark) where
  -- the rows of the shrunk table
  abbrev us : List Row
  us = marked_rows mark t (heads_of mark t) (heads_of mark t)

  -- what a row of the table is in the shrunk table
  row_image : (r : Row) → In r t.rows →
      (q : Row) × (find us (place_of mark t r.from) r.terminal ≡ some q) × (q.to ≡ place_of mark t r.to)
  unfolding order
  row_image r i = go (find us (place_of mark t r.from) r.terminal) refl
      (image.step t climbs whole mark k r.from r.terminal (from_state t rooted r i)
      ∙ ap (map seat) (in_find t.rows r (rising_rise t.rows (not-false (rising t.rows) ordered)) i))
    where
      seat : Row → ℕ × Option ℕ
      seat x = (place_of mark t x.to, x.production)

      go : (o : Option Row) → find us (place_of mark t r.from) r.terminal ≡ o →
          map (λ (x : Row). (x.to, x.production)) o ≡ some (seat r) →
          (q : Row) × (find us (place_of mark t r.from) r.terminal ≡ some q) × (q.to ≡ place_of mark t r.to)
      go none e z = absurd (never z)
      go (some q) e z =
          let same = some-injective (q.to, q.production) (seat r) z in
          (q, e, ap (λ (w : ℕ × Option ℕ). w.0) same)

  place_reached : (fuel s : ℕ) → s < fuel → In s (states t.rows) → Reached us (place_of mark t s)
  place_reached zero s l i = absurd (omega arith)
  place_reached (suc fuel) s l i = ⊎_elim at_zero (at_row (place_reached fuel)) (in_states t.rows s i)
    where
      at_zero : s ≡ 0 → Reached us (place_of mark t s)
      at_zero e = subst (Reached us) (sym (zero_place Intake t climbs mark k) ∙ ap (place_of mark t) (sym e))
          (zero_reached us)

      at_row : ((x : ℕ) → x < fuel → In x (states t.rows) → Reached us (place_of mark t x)) →
          (r : Row) × In r t.rows × (r.to ≡ s) → Reached us (place_of mark t s)
      at_row ih w =
          let (r, j, e) = w in
          let (q, found, to) = row_image r j in
          let before = ih r.from (omega (arith, rows_climb t climbs r j, e)) (from_state t rooted r j) in
          subst (Reached us) (to ∙ ap (place_of mark t) e)
          (reached_on us (place_of mark t r.from) r.terminal q before found)

  -- Each number below the state count is reached.
  pub all_reached : (i : ℕ) → i < length (heads_of mark t) → Reached us i
  all_reached i l =
      let hs = heads_of mark t in
      let (x, a, e) = place_onto hs (heads_ascending Intake t climbs mark k) i l in
      let (b, own) = in_heads mark (states t.rows) (states t.rows) x a in
      subst (Reached us) (ap (place_among hs) own ∙ e) (place_reached (suc x) x (omega arith) b)
