-- In the table of some marks no two states have equal production and equal rows.
-- Assumes marks (`Marks`) of a table whose rows climb (`shape` does not refuse).
use mathlib.Core.Path.{◌≡◌, refl, sym, ◌∙◌, ap}
use mathlib.Core.Logic.{⊎_elim, ◌⊎◌, inl, inr}
use mathlib.Core.Bool.{false}
use mathlib.Core.List.{List}
use Prim.Native.Nat.{ℕ}
use Rattle.laws.proofs.Members.{In}
use Rattle.paper.specs.declared.Mode.{Mode}
use Rattle.paper.specs.Rows.{Row, Table, states}
use Rattle.paper.specs.Checks.{shape}
use Rattle.paper.specs.Shrink.{production_of, rows_of, redirect}
use Rattle.merging.specs.Marks.{
  head_of,
  source_of,
  heads_of,
  place_of,
  lowest_of,
  place_among,
  marked_row,
  marked_rows,
  Marks,
}
use Rattle.merging.proofs.Redirect.{redirect_over}
use Rattle.merging.proofs.Ends.{in_heads}
use Rattle.merging.proofs.States.{in_states, rows_of_state}
use Rattle.merging.proofs.Ruled.{P, R, ss, production_cases, zero_production}
use Rattle.merging.proofs.Places.{place_inj, place_zero}
use Rattle.merging.proofs.Shrunk.{zero_head, head_lowest, head_is_head}
use Rattle.merging.proofs.Shrunk.{source_highest, heads_ascending}
use Rattle.merging.proofs.Output.{in_marked}
use Rattle.merging.proofs.HeadRows.{rows_marked, into_head}

module _ (mode : Mode) (t : Table) (climbs : shape t ≡ false) (mark : ℕ → ℕ) (k : Marks mode t mark) where
  abbrev hs : List ℕ
  hs = heads_of mark t

  -- the rows of the shrunk table
  abbrev us : List Row
  us = marked_rows mark t (heads_of mark t) (heads_of mark t)

  head_state : (x : ℕ) → In x hs → In x (ss t)
  head_state x i = (in_heads mark (ss t) (ss t) x i).0

  head_itself : (x : ℕ) → In x hs → head_of mark t x ≡ x
  head_itself x i = (in_heads mark (ss t) (ss t) x i).1

  -- a state that places tell apart no further than marks do
  same_mark : (a b : ℕ) → In a (ss t) → In b (ss t) → place_of mark t a ≡ place_of mark t b → mark a ≡ mark b
  same_mark a b i j e =
      let c_a = head_is_head mode t climbs mark k a i in
      let c_b = head_is_head mode t climbs mark k b j in
      let same : head_of mark t a ≡ head_of mark t b = place_inj hs (head_of mark t a) (head_of mark t b) c_a c_b e in
      sym (head_lowest mode t climbs mark k a i).marked ∙ ap mark same ∙ (head_lowest mode t climbs mark k b j).marked

  -- heads with one production and, by places, one set of rows are one
  pub heads_unlike : (x y : ℕ) → In x hs → In y hs → P t x ≡ P t y →
      rows_of us (place_among hs x) ≡ rows_of us (place_among hs y) → x ≡ y
  heads_unlike x y i j e f =
      let high_x = source_highest mode t climbs mark k x (head_state x i) in
      let high_y = source_highest mode t climbs mark k y (head_state y j) in
      let own_x = rows_marked mark t hs hs (heads_ascending mode t climbs mark k) (λ z l. l) x i in
      let own_y = rows_marked mark t hs hs (heads_ascending mode t climbs mark k) (λ z l. l) y j in
      let rows : redirect mark (R t (source_of mark t x)) ≡ redirect mark (R t (source_of mark t y)) =
      redirect_over (place_of mark t) mark (R t (source_of mark t x)) (R t (source_of mark t y))
      (λ o p l m z. same_mark o.1 p.1 (rows_of_state t.rows (source_of mark t x) o l)
      (rows_of_state t.rows (source_of mark t y) p m) z)
      (sym own_x ∙ f ∙ own_y) in
      let p_x = (k.one (source_of mark t x) x high_x.is_in (head_state x i) high_x.marked).production in
      let p_y = (k.one (source_of mark t y) y high_y.is_in (head_state y j) high_y.marked).production in
      let marks : mark (source_of mark t x) ≡ mark (source_of mark t y) =
      k.two (source_of mark t x) (source_of mark t y) high_x.is_in high_y.is_in
      (record { production = p_x ∙ e ∙ sym p_y; rows = λ _. rows }) in
      let same : mark x ≡ mark y = sym high_x.marked ∙ marks ∙ high_y.marked in
      sym (head_itself x i) ∙ ap (lowest_of mark (ss t)) same ∙ head_itself y j

  -- a state of the shrunk table is a head's place, and has the head's production
  pub record HeadOf (i : ℕ) : Type 0 where
    pub head : ℕ
    pub is_head : In head hs
    pub place : place_among hs head ≡ i
    pub production : production_of t.prod0 us i ≡ P t head

  pub head_at : (i : ℕ) → In i (states us) → HeadOf i
  unfolding marked_row
  head_at i j = ⊎_elim at_zero at_row (in_states us i j)
    where
      by : (x : ℕ) → In x hs → place_among hs x ≡ i →
          ((x ≡ 0) ⊎ ((r : Row) × In r us × (r.to ≡ i))) → production_of t.prod0 us i ≡ P t x
      by x a b c = ⊎_elim
          (λ z. ⊎_elim
          (λ w. z.0 ∙ sym (zero_production t climbs) ∙ ap (P t) (sym w))
          (λ w. absurd (z.1 w.0 w.1 w.2))
          c)
          (λ z. let (r, l, e, f) = z in f ∙ into_head mode t climbs mark k x a r l (e ∙ sym b))
          (production_cases t.prod0 us i)

      at_zero : i ≡ 0 → HeadOf i
      at_zero e =
          let zero = zero_head mode t climbs mark k in
          let place : place_among hs 0 ≡ i = place_zero hs ∙ sym e in
          record { head = 0; is_head = zero; place = place; production = by 0 zero place (inl refl) }

      at_row : (r : Row) × In r us × (r.to ≡ i) → HeadOf i
      at_row w =
          let (r, l, e) = w in
          let (s, _, o, m, f) = in_marked mark t hs hs r l in
          let state = rows_of_state t.rows (source_of mark t s) o m in
          let x_head = head_is_head mode t climbs mark k o.1 state in
          let place : place_of mark t o.1 ≡ i = ap (λ (z : Row). z.to) (sym f) ∙ e in
          record {
            head = head_of mark t o.1;
            is_head = x_head;
            place = place;
            production = by (head_of mark t o.1) x_head place (inr w);
          }

  -- No two states of the table have equal production and equal rows.
  pub states_unlike : (i j : ℕ) → In i (states us) → In j (states us) →
      production_of t.prod0 us i ≡ production_of t.prod0 us j → rows_of us i ≡ rows_of us j → i ≡ j
  states_unlike i j a b e f =
      let x = head_at i a in
      let y = head_at j b in
      let rows = ap (rows_of us) x.place ∙ f ∙ ap (rows_of us) (sym y.place) in
      let same : x.head ≡ y.head =
      heads_unlike x.head y.head x.is_head y.is_head (sym x.production ∙ e ∙ y.production) rows in
      sym x.place ∙ ap (place_among hs) same ∙ y.place
