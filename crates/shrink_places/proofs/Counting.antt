-- Numbers given upward: each mark gets the next number at its lowest state.
-- Assumes marks below 1,024.
use mathlib.Core.Path.{◌≡◌, refl, sym, ap, ◌∙◌, subst}
use mathlib.Core.Bool.{false, false≢true}
use mathlib.Core.List.{List}
use Prim.Native.Nat.{ℕ, suc, ◌+◌, ◌<◌}
use native.Mathlib.Omega.{arith}
use native.Mathlib.Numerals.{add-one}
use borrow.Author.Tests.{eq-eqb, eqb-true, eqb-false}
use lib.Dec.{eqb}
use lib.ListN.{length, get_or, set, length-set}
use lib.Seq.{get_or-set_same, get_or-set_other}
use Rattle.laws.proofs.Members.{In}
use Rattle.paper.specs.Rows.{Table, states}
use Rattle.rows.proofs.Keys.{compared}
use Rattle.rows.proofs.Rest.{by_test}
use Rattle.counts.specs.Arrays.{Holds}
use Rattle.merging.specs.Numbers.{Ascending}
use Rattle.merging.specs.Marks.{lowest_of, place_among, head_of, heads_of}
use Rattle.merging.proofs.Ends.{Lowest, lowest, lowest_is, in_heads, heads_in, heads_ascend}
use Rattle.merging.proofs.States.{states_ascend}
use Rattle.merging.proofs.Places.{place_low, place_lt, place_zero}
use Rattle.merging.proofs.Loops.{place_next, place_skip, place_all}
use Rattle.shrink_alike.specs.States.{State, Topped, Tells}
use Rattle.shrink_alike.specs.Faces.{mark_in}
use Rattle.shrink_places.specs.Numbers.{Named, Placing, Placed}

module _ (t : Table) (class : List ℕ) where
  abbrev mark : ℕ → ℕ
  mark s = mark_in class s

  abbrev ss : List ℕ
  ss = states t.rows

  abbrev hs : List ℕ
  hs = heads_of (mark_in class) t

  pub heads_rise : Ascending (heads_of (mark_in class) t)
  heads_rise = heads_ascend mark ss ss (states_ascend t.rows)

  low : (s : ℕ) → State t s → Lowest mark ss (mark s) (head_of (mark_in class) t s)
  low s i = lowest mark ss (states_ascend t.rows) s (mark s) i refl

  -- s is a head where no lower state has its mark
  head_here : (s : ℕ) → State t s → ((u : ℕ) → State t u → u < s → mark u ≡ mark s → ⊥)
      → (head_of (mark_in class) t s ≡ s) × In s hs
  head_here s i h =
      let e = lowest_is mark ss (states_ascend t.rows) (mark s) s (record {
        is_in = i;
        marked = refl;
        low = λ u j f. compared u s (λ l. absurd (h u j l f)) (λ q. omega (arith, q)) (λ l. omega arith);
      }) in
      (e, heads_in mark ss ss s i e)

  -- s is none where one has
  head_not : (s u : ℕ) → State t u → u < s → mark u ≡ mark s → In s hs → ⊥
  head_not s u j l f i =
      let h = in_heads mark ss ss s i in
      let k = (low s h.0).low u j f in
      omega (arith, k, h.1, l)

  pub head_state : (s : ℕ) → In s (heads_of (mark_in class) t) → State t s
  head_state s i = (in_heads mark ss ss s i).0

  -- The states below s have given their marks numbers, m in all.
  pub record Counting (number : List ℕ) (m s : ℕ) : Type 0 where
    pub sized : length number ≡ 1024
    pub count : m ≡ place_among (heads_of (mark_in class) t) s
    pub placed : (u : ℕ) → State t u → u < s
        → get_or number (mark_in class u) 0 ≡ place_among (heads_of (mark_in class) t) (head_of (mark_in class) t u)
    pub only : (h : ℕ) → h < 1024 → (get_or number h 0 ≡ 65535 → ⊥)
        → (u : ℕ) × State t u × (u < s) × (mark_in class u ≡ h)

  pub count_start : (number : List ℕ) → Holds (λ s. 65535) number → Counting number 0 0
  count_start number h = record {
    sized = h.sized;
    count = sym (place_zero hs);
    placed = λ u i l. absurd (omega arith);
    only = λ x l d. absurd (d (h.held x l));
  }

  -- no state at s
  pub count_skip : (number : List ℕ) (m s : ℕ) → Counting number m s → (State t s → ⊥) → Counting number m (s + 1)
  count_skip number m s k dead = record {
    sized = k.sized;
    count = k.count ∙ sym (place_skip hs s (λ i. dead (head_state s i))) ∙ ap (place_among hs) (sym (add-one s));
    placed = λ u i l. compared u s
        (λ q. k.placed u i q)
        (λ q. absurd (dead (subst (State t) q i)))
        (λ q. absurd (omega arith));
    only = λ h l d. let (u, i, q, e) = k.only h l d in (u, i, omega (arith, q), e);
  }

  module _ (b : Named t class) (top : ℕ) (tops : Topped t.rows top) (number number' : List ℕ) (m r s : ℕ)
      (k : Counting number m s) (live : State t s) (p : Placing number number' (mark_in class s) m r) where
    room : mark s < 1024
    room = b.small s live

    -- a number given is none that stands for nothing
    given : (u : ℕ) → State t u → u < s → get_or number (mark u) 0 ≡ 65535 → ⊥
    given u i l e =
        let a = place_low hs heads_rise (head_of (mark_in class) t u) in
        let c = (low u i).low u i refl in
        omega (arith, k.placed u i l, e, a, c, tops.all s live, tops.few)

    -- the mark of s has no number yet
    module _ (e : get_or number (mark_in class s) 0 ≡ 65535) where
      unmet : (u : ℕ) → State t u → u < s → mark u ≡ mark s → ⊥
      unmet u i l f = given u i l (ap (λ (x : ℕ). get_or number x 0) f ∙ e)

      is_new : number' ≡ set number (mark s) m
      is_new = (p.fresh e).0

      count_fresh : Counting number' r (s + 1)
      count_fresh =
          let h = head_here s live unmet in
          record {
            sized = ap length is_new ∙ length-set number (mark s) m ∙ k.sized;
            count = (p.fresh e).1 ∙ add-one m ∙ ap suc k.count ∙ sym (place_next hs heads_rise s h.1)
                ∙ ap (place_among hs) (sym (add-one s));
            placed = λ u i l. compared u s
                (λ q.
                ap (λ (x : List ℕ). get_or x (mark u) 0) is_new
                ∙ get_or-set_other number (mark s) (mark u) m 0 (unmet u i q)
                ∙ k.placed u i q)
                (λ q. subst (λ (x : ℕ). get_or number' (mark x) 0 ≡ place_among hs (head_of (mark_in class) t x))
                (sym q)
                (ap (λ (x : List ℕ). get_or x (mark s) 0) is_new
                ∙ get_or-set_same number (mark s) m 0 (omega (arith, room, k.sized))
                ∙ k.count
                ∙ ap (place_among hs) (sym h.0)))
                (λ q. absurd (omega arith));
            only = λ x l d. by_test (eqb x (mark s))
                (λ q. (s, live, omega arith, sym (eqb-true x (mark s) q)))
                (λ q.
                let z = eqb-false x (mark s) q in
                let (u, i, y, f) = k.only x l (λ g. d (
                ap (λ (xs : List ℕ). get_or xs x 0) is_new ∙ get_or-set_other number (mark s) x m 0 z ∙ g)) in
                (u, i, omega (arith, y), f));
          }

    -- it has one
    count_held : (get_or number (mark_in class s) 0 ≡ 65535 → ⊥) → Counting number' r (s + 1)
    count_held d =
        let same : number' ≡ number = (p.held d).0 in
        let (u, i, l, f) = k.only (mark s) room d in
        subst (λ (x : List ℕ). Counting x r (s + 1)) (sym same) (record {
          sized = k.sized;
          count = (p.held d).1 ∙ k.count ∙ sym (place_skip hs s (head_not s u i l f))
              ∙ ap (place_among hs) (sym (add-one s));
          placed = λ v j q. compared v s
              (λ z. k.placed v j z)
              (λ z.
              let g : mark v ≡ mark u = ap mark z ∙ sym f in
              ap (λ (x : ℕ). get_or number x 0) g ∙ k.placed u i l
              ∙ ap (λ (x : ℕ). place_among hs (lowest_of mark ss x)) (sym g))
              (λ z. absurd (omega arith));
          only = λ x j g. let (v, y, z, h) = k.only x j g in (v, y, omega (arith, z), h);
        })

    pub count_more : Counting number' r (s + 1)
    count_more = by_test (eqb (get_or number (mark s) 0) 65535)
        (λ e. count_fresh (eqb-true (get_or number (mark s) 0) 65535 e))
        (λ e. count_held (eqb-false (get_or number (mark s) 0) 65535 e))

  pub count_end : (top : ℕ) → Topped t.rows top → (number : List ℕ) (m s : ℕ) → Counting number m s → s ≡ top
      → Placed t class number × (m ≡ length (heads_of (mark_in class) t))
  count_end top tops number m s k e = (
    record {
      sized = k.sized;
      placed = λ u i. k.placed u i (omega (arith, e, tops.all u i));
    },
    k.count ∙ ap (place_among hs) e ∙ place_all hs top (λ x i. tops.all x (head_state x i)),
  )

  -- ---- a head is known by its number

  pub head_tells : (number : List ℕ) → Placed t class number → (s m : ℕ) → State t s
      → m ≡ place_among (heads_of (mark_in class) t) s
      → Tells (In s (heads_of (mark_in class) t)) (eqb (get_or number (mark_in class s) 0) m)
  head_tells number p s m i e = record {
    yes = λ f.
        let c = low s i in
        compared (head_of (mark_in class) t s) s
        (λ l. absurd (
        let z : place_among hs (head_of (mark_in class) t s) ≡ place_among hs s =
        sym (p.placed s i) ∙ eqb-true (get_or number (mark s) 0) m f ∙ e in
        omega (
          arith,
          place_lt hs (head_of (mark_in class) t s) s
              (heads_in mark ss ss (head_of (mark_in class) t s) c.is_in (ap (lowest_of mark ss) c.marked)) l,
          z,
        )))
        (λ q. heads_in mark ss ss s i q)
        (λ l. absurd (omega (arith, c.low s i refl)));
    no = λ f j. false≢true (sym f ∙ eq-eqb (get_or number (mark s) 0) m
        (p.placed s i ∙ ap (place_among hs) (in_heads mark ss ss s j).1 ∙ sym e));
  }

-- no state is no head
pub no_head : (t : Table) (class : List ℕ) (s : ℕ) → (State t s → ⊥) → Tells (In s (heads_of (mark_in class) t)) false
no_head t class s dead = record {
  yes = λ f. absurd (false≢true f);
  no = λ f i. dead (head_state t class s i);
}
