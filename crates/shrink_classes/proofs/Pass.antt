-- The pass down the states: one state more has its mark, and its slot where it is kept.
-- Assumes a table whose rows climb and whose states are below 1,024.
use mathlib.Core.Path.{◌≡◌, refl, sym, ap, ◌∙◌, subst}
use mathlib.Core.Logic.{◌⊎◌, inl, inr, ⊎_elim}
use mathlib.Core.Bool.{true, false}
use mathlib.Core.List.{List}
use Prim.Native.Nat.{ℕ, ◌+◌, ◌%◌, ◌≤◌, ◌<◌}
use native.Mathlib.Omega.{arith}
use lib.ListN.{length, get_or, set, length-set}
use lib.Seq.{get_or-set_same, get_or-set_other}
use Rattle.laws.proofs.Members.{In}
use Rattle.paper.specs.declared.Mode.{Mode}
use Rattle.paper.specs.Rows.{Table}
use Rattle.paper.specs.Checks.{shape}
use Rattle.paper.specs.Shrink.{Node, rows_of, equal}
use Rattle.rows.specs.Places.{code}
use Rattle.rows.proofs.Keys.{compared}
use Rattle.counts.specs.Arrays.{Holds}
use Rattle.counts.proofs.Arrays.{by_equal}
use Rattle.merging.proofs.Equal.{equal_eq, eq_equal}
use Rattle.merging.proofs.States.{rows_of_in, rows_of_state}
use Rattle.merging.proofs.Ruled.{rows_climb}
use Rattle.shrink_alike.specs.Faces.{mark_in, production_at, counted, like, hash, sign}
use Rattle.shrink_slots.specs.Slots.{Stops, Stands}
use Rattle.shrink_alike.specs.States.{State, Topped}
use Rattle.shrink_classes.specs.Classes.{Like, Settled, From, Classed, Chosen}
use Rattle.shrink_slots.proofs.Slotted.{
  empty_all,
  empty_put,
  stop_inside,
  stop_like,
  stop_unlike,
  stand_on,
  stand_new,
}
use Rattle.shrink_classes.proofs.Settling.{counted_agree, settle_new, settle_join, settled_as}

module _ (mode : Mode) (t : Table) where
  -- a state as a node, its rows by marks where they count
  face : (ℕ → ℕ) → ℕ → Node
  face mark s = record { state = s; production = production_at t s; rows = counted mode t mark s }

  -- the test says that two states are alike, and back
  like_true : (mark : ℕ → ℕ) (a b : ℕ) → like mode t mark a b ≡ true → Like mode t mark a b
  unfolding like equal face
  like_true mark a b e =
      let h = equal_eq (face mark a) (face mark b) e in record { production = h.0; rows = h.1 }

  true_like : (mark : ℕ → ℕ) (a b : ℕ) → Like mode t mark a b → like mode t mark a b ≡ true
  unfolding like equal face
  true_like mark a b w = eq_equal (face mark a) (face mark b) w.production w.rows

  -- states that are alike have one number
  sign_like : (mark : ℕ → ℕ) (a b : ℕ) → Like mode t mark a b → sign mode t mark a ≡ sign mode t mark b
  unfolding sign
  sign_like mark a b w = rw (w.production, w.rows)

  sign_agree : (C D : ℕ → ℕ) (u : ℕ) → ((o : ℕ × ℕ) → In o (rows_of t.rows u) → D o.1 ≡ C o.1)
      → sign mode t D u ≡ sign mode t C u
  unfolding sign
  sign_agree C D u h = ap (hash (code (production_at t u) % 65521)) (counted_agree mode t C D u h)

  module _ (climbs : shape t ≡ false) where
    -- rows lead to higher states
    up : (u : ℕ) (o : ℕ × ℕ) → In o (rows_of t.rows u) → (u < o.1) × State t o.1
    up u o i =
        let (r, j, e, f) = rows_of_in t.rows u o i in
        let l = rows_climb t climbs r j in
        let q : o.1 ≡ r.to = ap (λ (p : ℕ × ℕ). p.1) f in
        (omega (arith, l, e, q), rows_of_state t.rows u o i)

    -- ---- one state more

    module _ (slots class class' : List ℕ) (s h : ℕ) (K : Classed mode t slots class (s + 1)) (live : State t s)
        (room : s < 1024) (put : class' ≡ set class s h) where
      abbrev C : ℕ → ℕ
      C u = mark_in class u

      abbrev D : ℕ → ℕ
      D u = mark_in class' u

      d_here : D s ≡ h
      d_here = rw put (get_or-set_same class s h 0 (omega (arith, room, K.classes)))

      d_above : (u : ℕ) → s + 1 ≤ u → D u ≡ C u
      d_above u l = rw put (get_or-set_other class s u h 0 (λ e. omega (arith, e, l)))

      agree : (u : ℕ) → From t (s + 1) u → D u ≡ C u
      agree u d = d_above u d.0

      ready : (o : ℕ × ℕ) → In o (rows_of t.rows s) → From t (s + 1) o.1
      ready o i = let l = up s o i in (omega (arith, l.0), l.1)

      signs : (u : ℕ) → s ≤ u → sign mode t D u ≡ sign mode t C u
      signs u l = sign_agree C D u (λ o i. d_above o.1 (let k = up u o i in omega (arith, k.0, l)))

      sized : length class' ≡ 1024
      sized = ap length put ∙ length-set class s h ∙ K.classes

      whole : Settled mode t D (λ (u : ℕ). From t (s + 1) u ⊎ (s ≡ u)) → Settled mode t D (From t s)
      whole S = settled_as mode t D (λ (u : ℕ). From t (s + 1) u ⊎ (s ≡ u)) (From t s)
          (λ u p. ⊎_elim (λ d. (omega (arith, d.0), d.1)) (λ e. (omega (arith, e), subst (State t) e live)) p)
          (λ u d. compared s u
          (λ l. inl (omega arith, d.1))
          (λ e. inr e)
          (λ l. absurd (omega (arith, d.0))))
          S

      highest : s ≤ h → (u : ℕ) → From t s u → u ≤ D u
      highest m u d = compared s u
          (λ l.
          let b : From t (s + 1) u = (omega arith, d.1) in
          omega (arith, agree u b, K.highest u b))
          (λ e. rw (← e) (omega (arith, d_here, m)))
          (λ l. absurd (omega (arith, d.0)))

      -- a kept state from before stands where it stood
      stood : (u : ℕ) → From t (s + 1) u → D u ≡ u → Stands slots (sign mode t D u) u
      stood u d e = rw (signs u (omega (arith, d.0))) (K.stand u d (sym (agree u d) ∙ e))

      held : (i : ℕ) → i < 1024 → (get_or slots i 0 ≡ 65535 → ⊥)
          → From t s (get_or slots i 0) × (D (get_or slots i 0) ≡ get_or slots i 0)
      held i l d =
          let k = K.holders i l d in
          ((omega (arith, k.0.0), k.0.1), agree (get_or slots i 0) k.0 ∙ k.1)

      module _ (top : ℕ) (tops : Topped t.rows top) (at : ℕ)
          (w : Stops (like mode t C) slots s (sign mode t C s) at) where
        under : (u k : ℕ) → From t k u → u < 1024
        under u k d = omega (arith, tops.few, tops.all u d.1)

        -- s is kept, in a slot that was empty
        pub pass_keep : h ≡ s → get_or slots at 0 ≡ 65535 → Classed mode t (set slots at s) class' s
        pass_keep own z = record {
          settled = whole (settle_new mode t C D (From t (s + 1)) s K.settled ready agree (d_here ∙ own)
              (λ k d e v. stop_unlike w z k (under k (s + 1) d)
              (rw (sign_like C s k v) (K.stand k d e)) (true_like C s k v)));
          highest = highest (omega (arith, own));
          stand = λ u d e. compared s u
              (λ l.
              let b : From t (s + 1) u = (omega arith, d.1) in
              stand_on slots at z s (under u s d) (stood u b e))
              (λ q. subst (λ (x : ℕ). Stands (set slots at s) (sign mode t D x) x) q
              (rw (signs s (omega arith)) (stand_new slots at z s K.sized w)))
              (λ l. absurd (omega (arith, d.0)));
          holders = λ i l d. by_equal i at
              (λ q.
              let m : at < length slots = omega (arith, stop_inside w, K.sized) in
              let x : get_or (set slots at s) i 0 ≡ s = rw q (get_or-set_same slots at s 0 m) in
              rw x ((omega arith, live), d_here ∙ own))
              (λ q.
              let x : get_or (set slots at s) i 0 ≡ get_or slots i 0 = get_or-set_other slots at i s 0 q in
              rw x (held i l (λ y. d (x ∙ y))));
          room = omega (arith, empty_put slots at s, K.room);
          sized = length-set slots at s ∙ K.sized;
          classes = sized;
        }

        -- s joins the state in the slot
        pub pass_join : h ≡ get_or slots at 0 → (get_or slots at 0 ≡ 65535 → ⊥) → Classed mode t slots class' s
        pass_join own d =
            let k = K.holders at (stop_inside w) d in
            let l : s < h = omega (arith, own, k.0.0) in
            record {
              settled = whole (settle_join mode t C D (From t (s + 1)) s K.settled ready agree (get_or slots at 0)
                  (d_here ∙ own) (λ e. omega (arith, own, l, e)) k.0 k.1
                  (like_true C s (get_or slots at 0) (stop_like (like mode t C) slots s at w.here d)));
              highest = highest (omega arith);
              stand = λ u d e. compared s u
                  (λ m. stood u (omega arith, d.1) e)
                  (λ q. absurd (
                  let f : h ≡ s = sym d_here ∙ ap D q ∙ e ∙ sym q in
                  omega (arith, f, l)))
                  (λ m. absurd (omega (arith, d.0)));
              holders = held;
              room = omega (arith, K.room);
              sized = K.sized;
              classes = sized;
            }

    pub pass_more : (top : ℕ) → Topped t.rows top → (slots class slots' class' : List ℕ) (s : ℕ)
        → Classed mode t slots class (s + 1) → State t s → Chosen mode t slots class slots' class' s
        → Classed mode t slots' class' s
    pass_more top tops slots class slots' class' s K live c =
        let room : s < 1024 = omega (arith, tops.few, tops.all s live) in
        by_equal (get_or slots c.at 0) 65535
        (λ z.
        let k = c.kept z in
        rw k.1 (pass_keep slots class class' s s K live room k.0 top tops c.at c.found refl z))
        (λ d.
        let k = c.joined d in
        rw k.1 (pass_join slots class class' s (get_or slots c.at 0) K live room k.0 top tops c.at c.found
        refl d))

  -- ---- before the first

  pub pass_start : (top : ℕ) → Topped t.rows top → (slots class : List ℕ) → Holds (λ s. 65535) slots
      → length class ≡ 1024 → Classed mode t slots class top
  pass_start top tops slots class h l = record {
    settled = record {
      closed = λ u d o i. absurd (past u d);
      kept = λ u d. absurd (past u d);
      alike = λ u d. absurd (past u d);
      unlike = λ u v d e f g w. absurd (past u d);
    };
    highest = λ u d. absurd (past u d);
    stand = λ u d e. absurd (past u d);
    holders = λ i k d. absurd (d (h.held i k));
    room = omega (arith, tops.few, h.sized, empty_all slots (λ i k. h.held i (omega (arith, h.sized))));
    sized = h.sized;
    classes = l;
  }
    where
      past : (u : ℕ) → From t top u → ⊥
      past u d = omega (arith, d.0, tops.all u d.1)
