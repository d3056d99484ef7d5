-- A row of the second looked up in the first alone comes to what it comes to in the union so far.
-- Assumes nothing.
use mathlib.Core.Path.{◌≡◌, refl, ap, sym, ◌∙◌}
use mathlib.Core.Bool.{false}
use mathlib.Core.Option.{Option, none, some}
use mathlib.Core.List.{List, ◌∷◌, map}
use Prim.Native.Nat.{ℕ, ◌≤◌}
use native.Mathlib.Omega.{arith}
use borrow.Author.Tests.{ne_eqb}
use lib.Dec.{eqb}
use lib.ListN.{length}
use Rattle.laws.proofs.Tests.{never}
use Rattle.laws.proofs.Refusals.{refuse_accept, refused_is}
use Rattle.paper.specs.declared.Mode.{Mode}
use Rattle.paper.specs.Rows.{Row, find}
use Rattle.paper.specs.Answers.{Ruling, accept, refuse, then}
use Rattle.paper.specs.Build.{Standing}
use Rattle.paper.specs.Unite.{taken, matched}
use Rattle.trees.specs.Reach.{Seat, seat_of, onward, Word, said}
use Rattle.trees.specs.Views.{join}
use Rattle.trees.proofs.Paths.{path, word, onward_some, onward_none, low}
use Rattle.trees.proofs.Paint.{paint}
use Rattle.trees.proofs.Tree.{Tree}
use Rattle.trees.proofs.Words.{join_none}
use Rattle.trees.proofs.Order.{Next}
use Rattle.trees.proofs.Took.{lead}
use Rattle.trees.proofs.Matching.{Matching}
use Rattle.unite_taking.specs.Taking.{so_far, taking}
use Rattle.unite_scan.specs.Looking.{mark, unmark, seek, looked}
use Rattle.unite_taking.proofs.Ongoing.{plain}

-- the match that a seat stands for
abbrev pub state_at : Option Seat → Option ℕ
state_at none = none
state_at (some z) = some z.state

-- a state's match is read as it was written
pub read_back : (o : Option ℕ) → ((s : ℕ) → o ≡ some s → s ≤ 1023) → unmark (mark o) ≡ o
read_back none h = refl
read_back (some s) h =
    let n : eqb s 65535 ≡ false = ne_eqb s 65535 (λ d. omega (arith, h s refl)) in rw n

-- where the first leads, one terminal further, by its match
pub lead_on : (xs : List Row) (w : List ℕ) (t : ℕ) → Tree xs → length xs ≤ 1023
    → lead (plain xs) (t ∷ w) ≡ seat_of (seek xs (unmark (mark (state_at (lead (plain xs) w)))) t)
unfolding path onward seek seat_of
lead_on xs w t tr h = go (lead (plain xs) w) refl
  where
    go : (o : Option Seat) → lead (plain xs) w ≡ o
        → onward (find xs) o t ≡ seat_of (seek xs (unmark (mark (state_at o))) t)
    go none e = refl
    go (some z) e =
        let l : z.state ≤ length xs = low none (find xs) (length xs) tr.cap w z e in
        rw (read_back (some z.state) (λ s d. let k : z.state ≡ s = cc in omega arith))

-- what is looked up is what follows
pub looked_match : (mode : Mode) (q : Option ℕ) (g : Option Row) (v : Option ℕ) → looked mode q g ≡ accept v
    → v ≡ state_at (seat_of g)
unfolding looked seat_of
looked_match mode q none v e = cc
looked_match mode q (some x) v e = go (taken mode x.production q) e
  where
    go : (k : Ruling (Option ℕ)) → then k (λ _. accept (some x.to)) ≡ accept v → v ≡ some x.to
    go (accept z) e = cc
    go (refuse n d) e = refuse_accept e

module _ (mode : Mode) (a : List ℕ → Word) (pB : Option ℕ) (D rs : List Row) (ms : List (ℕ × ℕ))
    (i : Matching mode a pB D (so_far none 0 rs ms)) (r : Row) (nx : Next D r)
    (w : List ℕ) (y : Seat) (at : path pB (find D) w ≡ some y) (is : y.state ≡ r.from)
    (x : Seat) (e₁ : lead (so_far none 0 rs ms).table w ≡ some x) (e₂ : x.state ≡ matched ms r.from) where
  abbrev new : List ℕ
  new = r.terminal ∷ w

  fresh : said (path pB (find D) new) ≡ none
  unfolding path said
  fresh = ap said (onward_none (find D) (path pB (find D) w) r.terminal y at (rw is nx.new))

  -- the union so far says of the row what the first says
  own : word (so_far none 0 rs ms).table new ≡ a new
  own = i.words new ∙ ap (join mode (a new)) fresh ∙ join_none mode (a new)

  pub own_none : find rs (matched ms r.from) r.terminal ≡ none → a new ≡ none
  unfolding word path said
  own_none e = sym own ∙ ap said
      (onward_none (find rs) (lead (so_far none 0 rs ms).table w) r.terminal x e₁ (rw e₂ e))

  pub own_some : (z : Row) → find rs (matched ms r.from) r.terminal ≡ some z → a new ≡ some z.production
  unfolding word path said
  own_some z e = sym own ∙ ap said
      (onward_some (find rs) (lead (so_far none 0 rs ms).table w) r.terminal x e₁ z (rw e₂ e))

-- two rows with one production, or none
pub data Alike : Option Row → Option Row → Type 0 where
  neither : Alike none none
  both : {x z : Row} → x.production ≡ z.production → Alike (some x) (some z)

pub alike : (a : Word) (o g : Option Row) → (o ≡ none → a ≡ none) → ((z : Row) → o ≡ some z → a ≡ some z.production)
    → a ≡ said (seat_of g) → Alike g o
unfolding said seat_of
alike a none none h k e = neither
alike a none (some x) h k e = absurd (never (sym (h refl) ∙ e))
alike a (some z) none h k e = absurd (never (sym e ∙ k z refl))
alike a (some z) (some x) h k e =
    let d : some x.production ≡ some z.production = sym e ∙ k z refl in both {x = x} {z = z} (cc)

module _ (mode : Mode) (rs : List Row) (s t : ℕ) (q : Option ℕ) where
  pub alike_refused : (g o : Option Row) → Alike g o → (n : ℕ) (d : List ℕ) → looked mode q g ≡ refuse n d
      → taking mode rs s t q o ≡ refuse n d
  unfolding looked taking
  alike_refused none none neither n d e = absurd (let z : ◌≡◌ {A = ℕ} 0 1 = cc in omega arith)
  alike_refused none (some z) x4 n d e = elim x4 [ ]
  alike_refused (some x) none x5 n d e = elim x5 [ ]
  alike_refused (some x) (some z) (both k) n d e =
      rw (← k, refused_is (λ _. some x.to) (taken mode x.production q) n d (sym e))

  pub alike_taken : (g o : Option Row) → Alike g o → (v : Option ℕ) → looked mode q g ≡ accept v
      → (w : Standing) × (taking mode rs s t q o ≡ accept w)
  unfolding looked taking
  alike_taken none none neither v e = (_, refl)
  alike_taken none (some z) x4 v e = elim x4 [ ]
  alike_taken (some x) none x5 v e = elim x5 [ ]
  alike_taken (some x) (some z) (both k) v e = rw (← k) (go (taken mode x.production q) e)
    where
      go : (g : Ruling (Option ℕ)) → ◌≡◌ {A = Ruling (Option ℕ)} (then g (λ _. accept (some x.to))) (accept v)
          → (w : Standing) × (then {B = Standing} g
          (λ c. accept (record { rows = map (paint z.to c) rs; state = z.to }))
          ≡ accept w)
      go (accept c) e = (_, refl)
      go (refuse m f) e = absurd (let z : ◌≡◌ {A = ℕ} 0 1 = cc in omega arith)
