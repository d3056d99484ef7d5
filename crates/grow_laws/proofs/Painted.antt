-- In a tree one row leads into each state but 0: a state's production is one number of that row.
-- Assumes nothing.
use mathlib.Core.Path.{◌≡◌, refl, ap, sym, ◌∙◌, subst}
use mathlib.Core.Bool.{Bool, true, false, cond}
use mathlib.Core.Option.{Option}
use mathlib.Core.List.Memᴰ
use mathlib.Core.List.{List, [], ◌∷◌, ◌++◌, map}
use Prim.Native.Nat.{ℕ, zero, suc, ◌+◌, ◌*◌, ◌<◌}
use native.Mathlib.Omega.{arith}
use borrow.Author.Tests.{eq-eqb, ne_eqb, le-leb}
use lib.Dec.{eqb}
use lib.ListN.{length, get_or, take, drop, set, length-set}
use lib.Seq.{split_at, length-take-le, take-set-lt}
use lib.IntN.{ℤ}
use Rattle.laws.proofs.Every.{every_true, every_in}
use Rattle.laws.proofs.RowNumbers.{rows_numbers}
use Rattle.paper.specs.Rows.{Row, signed, rows_in, numbers}
use Rattle.paper.specs.Checks.{row_fits, production_fits}
use Rattle.rows.proofs.Fits.{Fit, fit, code_fits}
use Rattle.trees.proofs.Find.{In}
use Rattle.trees.proofs.Rising.{before_last, after_last, not_before_itself, rising_true, true_rising}
use Rattle.trees.proofs.Paint.{paint, rising_paint}
use Rattle.trees.proofs.Tree.{Tree, same_to, up}
use Rattle.grow_laws.specs.Held.{held, row_held, Laid, Given}
use Rattle.grow_laws.proofs.Written.{no_row, held_length, held_at}
use Rattle.grow_laws.proofs.Placed.{room, written, laid_by, fitting}

-- a production for the state that row i of a tree leads to.
pub record Giving (buf : List ℤ) (n i : ℕ) : Type 0 where
  pub laid : Laid buf n
  pub tree : Tree (held buf n)
  pub there : i < n

-- rows none of which leads into s stay as they are
pub paint_none : (s : ℕ) (q : Option ℕ) (rs : List Row) → ((x : Row) → In x rs → x.to ≡ s → ⊥) → map (paint s q) rs
    ≡ rs
unfolding paint
paint_none s q [] h = refl
paint_none s q (r ∷ rs) h =
    rw (ne_eqb r.to s (h r (Memᴰ.head refl)), paint_none s q rs (λ x i. h x (Memᴰ.tail i)))

-- no row of a tree leads into state 0
pub paint_root : (q : Option ℕ) (rs : List Row) → Tree rs → map (paint 0 q) rs ≡ rs
paint_root q rs tr = paint_none 0 q rs (λ x i e. omega (arith, up rs tr x i, e))

map_append : (f : Row → Row) (a b : List Row) → map f (a ++ b) ≡ map f a ++ map f b
map_append f [] b = refl
map_append f (x ∷ a) b = rw (map_append f a b)

-- the row r with the production q
abbrev pub with_production : Row → Option ℕ → Row
with_production r q = record { from = r.from; terminal = r.terminal; to = r.to; production = q }

paint_own : (r : Row) (q : Option ℕ) → paint r.to q r ≡ with_production r q
unfolding paint
paint_own r q = rw (eq-eqb r.to r.to refl)

module _ (D : List Row) (r : Row) (E : List Row) (tr : Tree (D ++ (r ∷ E))) where
  there : In r (D ++ (r ∷ E))
  there = Memᴰ.append_right D (Memᴰ.head refl)

  clear : (x : Row) → x ≡ r → (x.from ≡ r.from) × (x.terminal ≡ r.terminal)
  clear x e = (ap (λ (z : Row). z.from) e, ap (λ (z : Row). z.terminal) e)

  -- only r leads where it leads
  pub paint_one : (q : Option ℕ) → map (paint r.to q) (D ++ (r ∷ E)) ≡ D ++ (with_production r q ∷ E)
  paint_one q =
      map_append (paint r.to q) D (r ∷ E)
      ∙ rw (paint_none r.to q D before, paint_none r.to q E after, paint_own r q)
    where
      before : (x : Row) → In x D → x.to ≡ r.to → ⊥
      before x i e =
          let z : x ≡ r = same_to (D ++ (r ∷ E)) tr x r (Memᴰ.append_left (r ∷ E) i) there e in
          let k = clear x z in
          not_before_itself x r (before_last D r E tr.rising x i) (sym k.0, sym k.1)

      after : (x : Row) → In x E → x.to ≡ r.to → ⊥
      after x i e =
          let z : x ≡ r = same_to (D ++ (r ∷ E)) tr x r (Memᴰ.append_right D (Memᴰ.tail i)) there e in
          not_before_itself r x (after_last D r E tr.rising x i) (clear x z)

-- one number of the numbers
set_one : (D : List Row) (r : Row) (E : List Row) (q : Option ℕ) (i : ℕ) → i ≡ length D
    → set (numbers (D ++ (r ∷ E))) (i * 4 + 3) (signed q) ≡ numbers (D ++ (with_production r q ∷ E))
set_one [] r E q i e = rw e
set_one (d ∷ D) r E q zero e = absurd (omega arith)
set_one (d ∷ D) r E q (suc i) e =
    let k : suc i * 4 + 3 ≡ suc (suc (suc (suc (i * 4 + 3)))) = omega arith in
    rw (k, set_one D r E q i (omega arith))

module _ (buf : List ℤ) (n i : ℕ) (p : Option ℕ) (f : production_fits p ≡ true) (g : Giving buf n i) where
  abbrev rs : List Row
  rs = held buf n

  abbrev r : Row
  r = get_or (held buf n) i no_row

  rows_long : length rs ≡ n
  rows_long = held_length buf n (room buf n g.laid)

  cut : rs ≡ take i rs ++ (r ∷ drop (suc i) rs)
  cut = split_at rs i no_row (omega (arith, rows_long, g.there))

  pub painted_is : map (paint r.to p) rs ≡ take i rs ++ (with_production r p ∷ drop (suc i) rs)
  painted_is =
      let tr : Tree (take i rs ++ (r ∷ drop (suc i) rs)) = subst Tree cut g.tree in
      ap (map (paint r.to p)) cut ∙ paint_one (take i rs) r (drop (suc i) rs) tr p

  fits_painted : (x : Row) → In x (map (paint r.to p) rs) → row_fits x ≡ true
  unfolding paint
  fits_painted x j =
      let (y, m, e) = Memᴰ.of_map (paint r.to p) rs j in
      let h : row_fits y ≡ true = every_in row_fits rs g.laid.passed.fits y m in
      let k : Fit y = fit y h in
      ap row_fits (sym e) ∙ fitting (paint r.to p y) k.from k.terminal k.to
      (go (eqb y.to r.to) y h)
    where
      go : (b : Bool) (y : Row) → row_fits y ≡ true → production_fits (cond b p y.production) ≡ true
      go true y h = f
      go false y h = sym (code_fits y.production) ∙ le-leb _ _ (fit y h).production

  pub given : (new : List ℤ) → new ≡ set buf (i * 4 + 3) (signed p) → length new ≡ length buf
      → Given buf new n i p
  given new e same =
      let j : i * 4 + 3 < n * 4 = omega (arith, g.there) in
      let d : i ≡ length (take i rs) = sym (length-take-le i rs (omega (arith, rows_long, g.there))) in
      let w : numbers rs ≡ take (n * 4) buf = written buf n g.laid in
      let now : take (n * 4) new ≡ numbers (map (paint r.to p) rs) =
      ap (take (n * 4)) e ∙ take-set-lt (n * 4) buf (i * 4 + 3) (signed p) j
      ∙ ap (λ (l : List ℤ). set l (i * 4 + 3) (signed p)) (sym w ∙ ap numbers cut)
      ∙ set_one (take i rs) r (drop (suc i) rs) p i d ∙ sym (ap numbers painted_is) in
      let at : r ≡ row_held buf n i = held_at buf n (room buf n g.laid) i g.there in
      record {
        laid = laid_by new n (map (paint r.to p) rs) g.laid.few (omega (arith, g.laid.room)) now
            (every_true row_fits (map (paint r.to p) rs) fits_painted)
            (rising_true _ (rising_paint r.to p rs (true_rising rs g.laid.passed.rises)));
        rows = ap rows_in now ∙ rows_numbers (map (paint r.to p) rs)
            ∙ ap (λ (x : Row). map (paint x.to p) rs) at;
      }

-- the production written in the array
pub gives : (buf new : List ℤ) (n i : ℕ) (p : Option ℕ) (z : ℤ) → Laid buf n → Tree (held buf n) → i < n
    → production_fits p ≡ true → z ≡ signed p → new ≡ set buf (i * 4 + 3) z → Given buf new n i p
gives buf new n i p z l t h f d e =
    let k : new ≡ set buf (i * 4 + 3) (signed p) = e ∙ ap (set buf (i * 4 + 3)) d in
    given buf n i p f (record { laid = l; tree = t; there = h }) new k (ap length k ∙ simp length-set)
