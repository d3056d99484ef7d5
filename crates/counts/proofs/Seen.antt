-- The states of rows counted from the last row to the first, by an array of the states seen.
-- Assumes nothing.
use mathlib.Core.Path.{◌≡◌, refl, sym, ap, ◌∙◌}
use mathlib.Core.Bool.{Bool, true, false, cond}
use mathlib.Core.List.{List, [], ◌∷◌}
use Prim.Native.Nat.{ℕ, suc, ◌+◌, ◌*◌, ◌/◌, ◌<◌, ◌≤◌}
use native.Mathlib.Omega.{arith}
use borrow.Author.Tests.{eq-eqb, ne_eqb, lt-ltb, le-ltb}
use lib.Dec.{eqb}
use lib.ListN.{length, get_or, set}
use lib.Seq.{set-get_or}
use lib.IntN.{ℤ}
use Rattle.paper.specs.Rows.{Row, with_number, states}
use Rattle.rows.specs.Places.{row_at, rest}
use Rattle.rows.proofs.Rest.{rest_cons, rest_end}
use Rattle.rows.proofs.Keys.{compared}
use Rattle.counts.specs.Arrays.{Holds, Clear}
use Rattle.counts.specs.Counts.{seen_in, Entered}
use Rattle.counts.proofs.Arrays.{holds_set}

-- Numbers that rise, from b on.
abbrev pub Up : ℕ → List ℕ → Type 0
Up b [] = Unit
Up b (x ∷ xs) = (b ≤ x) × Up (suc x) xs

-- a number below them is not among them
below_none : (b s : ℕ) (xs : List ℕ) → Up b xs → s < b → seen_in xs s ≡ 0
unfolding seen_in
below_none b s [] u h = refl
below_none b s (x ∷ xs) u h =
    let e : eqb x s ≡ false = ne_eqb x s (λ (q : x ≡ s). omega arith) in
    rw e (below_none (suc x) s xs u.1 (omega arith))

-- the three places of x before, at and after the first number
module _ (x y : ℕ) (ys : List ℕ) where
  pub put_before : x < y → with_number x (y ∷ ys) ≡ x ∷ y ∷ ys
  unfolding with_number
  put_before h = simp (lt-ltb _ _ h)

  pub put_at : x ≡ y → with_number x (y ∷ ys) ≡ y ∷ ys
  unfolding with_number
  put_at e = let h : y ≤ x = omega arith in simp (le-ltb _ _ h, eq-eqb _ _ e)

  pub put_after : y < x → with_number x (y ∷ ys) ≡ y ∷ with_number x ys
  unfolding with_number
  put_after h =
      let l : y ≤ x = omega arith in
      let n : x ≡ y → ⊥ = λ e. omega arith in
      simp (le-ltb _ _ l, ne_eqb _ _ n)

pub with_up : (b x : ℕ) (ys : List ℕ) → Up b ys → b ≤ x → Up b (with_number x ys)
unfolding with_number
with_up b x [] u h = (h, tt)
with_up b x (y ∷ ys) u h = compared x y
    (λ (l : x < y). rw (put_before x y ys l) (h, (omega arith, u.1)))
    (λ (e : x ≡ y). rw (put_at x y ys e) u)
    (λ (l : y < x). rw (put_after x y ys l) (u.0, with_up (suc y) x ys u.1 (omega arith)))

-- a number put in makes the list longer exactly when it was not there
pub with_length : (b x : ℕ) (ys : List ℕ) → Up b ys → length (with_number x ys) + seen_in ys x ≡ suc (length ys)
unfolding with_number seen_in
with_length b x [] u = refl
with_length b x (y ∷ ys) u = compared x y
    (λ (l : x < y). omega (arith, ap length (put_before x y ys l), below_none y x (y ∷ ys) (omega arith, u.1) l))
    (λ (e : x ≡ y).
    let q : seen_in (y ∷ ys) x ≡ 1 = ap (λ (t : Bool). cond t 1 (seen_in ys x)) (eq-eqb y x (sym e)) in
    omega (arith, ap length (put_at x y ys e), q))
    (λ (l : y < x).
    let n : y ≡ x → ⊥ = λ e. omega arith in
    let q : seen_in (y ∷ ys) x ≡ seen_in ys x = ap (λ (t : Bool). cond t 1 (seen_in ys x)) (ne_eqb y x n) in
    omega (arith, ap length (put_after x y ys l), q, with_length (suc y) x ys u.1))

-- what is there once it is put in
pub with_seen : (x s : ℕ) (ys : List ℕ) → seen_in (with_number x ys) s ≡ cond (eqb x s) 1 (seen_in ys s)
unfolding with_number seen_in
with_seen x s [] = refl
with_seen x s (y ∷ ys) = compared x y
    (λ (l : x < y). ap (λ (zs : List ℕ). seen_in zs s) (put_before x y ys l))
    (λ (e : x ≡ y). ap (λ (zs : List ℕ). seen_in zs s) (put_at x y ys e)
    ∙ twice (eqb y s) (seen_in ys s)
    ∙ ap (λ (z : ℕ). cond (eqb z s) 1 (cond (eqb y s) 1 (seen_in ys s))) (sym e))
    (λ (l : y < x). ap (λ (zs : List ℕ). seen_in zs s) (put_after x y ys l)
    ∙ ap (λ (n : ℕ). cond (eqb y s) 1 n) (with_seen x s ys)
    ∙ turn (eqb y s) (eqb x s) (seen_in ys s))
  where
    twice : (a : Bool) (n : ℕ) → cond a 1 n ≡ cond a 1 (cond a 1 n)
    twice true n = refl
    twice false n = refl

    turn : (a b : Bool) (n : ℕ) → cond a 1 (cond b 1 n) ≡ cond b 1 (cond a 1 n)
    turn true true n = refl
    turn true false n = refl
    turn false true n = refl
    turn false false n = refl

pub states_up : (rs : List Row) → Up 0 (states rs)
unfolding states
states_up [] = (omega arith, tt)
states_up (r ∷ rs) = with_up 0 r.to (states rs) (states_up rs) (omega arith)

pub seen_le : (xs : List ℕ) (s : ℕ) → seen_in xs s ≤ 1
unfolding seen_in
seen_le [] s = omega arith
seen_le (x ∷ xs) s = go (eqb x s) (seen_le xs s)
  where
    go : (b : Bool) → seen_in xs s ≤ 1 → cond b 1 (seen_in xs s) ≤ 1
    go true h = omega arith
    go false h = h

module _ (ns : List ℤ) (i : ℕ) (l : i * 4 + 3 < length ns) where
  states_cons : states (rest ns i) ≡ with_number (row_at ns i).to (states (rest ns (i + 1)))
  unfolding states
  states_cons = ap states (rest_cons ns i l)

  module _ (seen new : List ℕ) (k t r : ℕ) (e : i + 1 ≡ k) (h : Holds (seen_in (states (rest ns k))) seen)
      (q : t ≡ (row_at ns i).to) (b : t < 1024) (d : Entered seen new t r) where
    -- one row more, taken before those whose states are seen
    pub see_row : Holds (seen_in (states (rest ns i))) new
    see_row = rw d.holds (holds_set t 1 h b
        (here t ∙ ap (λ (p : Bool). cond p 1 (seen_in (states (rest ns (i + 1))) t)) (eq-eqb _ _ (sym q)))
        (λ s n. here s
        ∙ ap (λ (p : Bool). cond p 1 (seen_in (states (rest ns (i + 1))) s))
        (ne_eqb _ _ (λ (x : (row_at ns i).to ≡ s). n (q ∙ x)))
        ∙ ap (λ (m : ℕ). seen_in (states (rest ns m)) s) e))
      where
        here : (s : ℕ) → seen_in (states (rest ns i)) s
            ≡ cond (eqb (row_at ns i).to s) 1 (seen_in (states (rest ns (i + 1))) s)
        here s = ap (λ (xs : List ℕ). seen_in xs s) states_cons
            ∙ with_seen (row_at ns i).to s (states (rest ns (i + 1)))

    pub see_count : (n : ℕ) → n ≡ length (states (rest ns k)) → n + r ≡ length (states (rest ns i))
    see_count n c =
        let xs = states (rest ns (i + 1)) in
        let u : length (with_number (row_at ns i).to xs) + seen_in xs (row_at ns i).to ≡ suc (length xs) =
        with_length 0 (row_at ns i).to xs (states_up (rest ns (i + 1))) in
        let a : seen_in (states (rest ns k)) t ≡ seen_in xs (row_at ns i).to =
        rw (← e) (ap (seen_in xs) q) in
        let z : n ≡ length xs = rw e c in
        omega (arith, u, a, z, h.held t b, d.fresh, ap length states_cons)

-- past the last row only state 0 is seen
module _ (ns : List ℤ) where
  no_rows : states (rest ns (length ns / 4)) ≡ 0 ∷ []
  unfolding states
  no_rows = ap states (rest_end ns (length ns / 4) (omega arith))

  pub see_zero : (seen : List ℕ) → Clear seen → Holds (seen_in (states (rest ns (length ns / 4)))) (set seen 0 1)
  unfolding seen_in
  see_zero seen h = rw no_rows (holds_set 0 1 h (omega arith) refl
      (λ s n. ap (λ (b : Bool). cond b 1 0) (ne_eqb 0 s n)))

  pub one_state : 1 ≡ length (states (rest ns (length ns / 4)))
  one_state = sym (ap length no_rows)

-- a state that was entered before, and one that was not
pub entered_before : (old : List ℕ) (s : ℕ) → get_or old s 0 ≡ 1 → Entered old old s 0
entered_before old s e = record { holds = sym (ap (set old s) (sym e) ∙ set-get_or old s 0); fresh = omega arith }
