-- The accepting states of a tree number exactly the distinct strings that it claims; those of an intake union the
-- distinct strings claimed in either tree. Assumes nothing.
use mathlib.Core.Path.{◌≡◌, refl, sym, ◌∙◌, ap, subst}
use mathlib.Core.Logic.{⊎_elim, ◌⊎◌, inl, inr}
use mathlib.Core.Option.{Option, none, some}
use mathlib.Core.List.{List, [], ◌∷◌, ◌++◌, reverse, reverse-reverse}
use mathlib.Core.List.Memᴰ
use Prim.Native.Nat.{ℕ, suc, ◌≤◌}
use native.Mathlib.Omega.{arith}
use lib.ListN.{length, length-append}
use lib.IntN.{ℤ}
use Rattle.laws.proofs.Members.{In, here, there, nowhere, where_in}
use Rattle.laws.proofs.Tests.{never}
use Rattle.paper.specs.declared.Mode.TheVariants.{Intake}
use Rattle.paper.specs.Rows.{Row, Table, find, table}
use Rattle.paper.specs.Answers.{Ruling, accept, Made}
use Rattle.paper.specs.Unite.{united, unite}
use Rattle.trees.specs.Reach.{Seat, sit, said, view}
use Rattle.trees.specs.Views.{seen}
use Rattle.trees.specs.Trees.{Treed}
use Rattle.trees.specs.Unions.{Union, Unites, joined, full, at_odds}
use Rattle.trees.specs.Accepting.{accepts, accepting_rows, accepting_states, Claimed, Either, Claims}
use Rattle.trees.specs.Accepting.{Apart, apart_nil, apart_cons}
use Rattle.laws.proofs.RowsRise.{RowsRise, rows_cons, not_before_itself}
use Rattle.laws.proofs.Find.{find_in}
use Rattle.trees.proofs.Paths.{path, word, view_word, onward_inv}
use Rattle.trees.proofs.Words.{join_claim, claim_left, claim_right}
use Rattle.trees.proofs.Tree.{Tree, up, to_le, same_to}
use Rattle.trees.proofs.Checked.{passes_tree}
use Rattle.trees.proofs.Took.{lead}
use Rattle.trees.proofs.Counting.{into_le, images}
use Rattle.trees.proofs.States.{Led, path_to, same_state, one_string}
use Rattle.trees.proofs.UniteSound.{united_views}
use Rattle.trees.proofs.Accepted.{unite_passed}

-- ---- the accepting states, listed
if_some : Option ℕ → ℕ → List ℕ
if_some none s = []
if_some (some q) s = s ∷ []

row_states : List Row → List ℕ
row_states [] = []
row_states (r ∷ rs) = if_some r.production r.to ++ row_states rs

all_states : Table → List ℕ
all_states t = if_some t.prod0 0 ++ row_states t.rows

length_if : (o : Option ℕ) (s : ℕ) → length (if_some o s) ≡ accepts o
unfolding if_some accepts
length_if none s = refl
length_if (some q) s = refl

length_rows : (rs : List Row) → length (row_states rs) ≡ accepting_rows rs
unfolding row_states accepting_rows
length_rows [] = refl
length_rows (r ∷ rs) = omega (
  arith,
  length-append (if_some r.production r.to) (row_states rs),
  length_if r.production r.to,
  length_rows rs,
)

length_all : (t : Table) → length (all_states t) ≡ accepting_states t
unfolding all_states accepting_states
length_all t = omega (
  arith,
  length-append (if_some t.prod0 0) (row_states t.rows),
  length_if t.prod0 0,
  length_rows t.rows,
)

if_in : (o : Option ℕ) (s n : ℕ) → In n (if_some o s) → (n ≡ s) × (q : ℕ) × (o ≡ some q)
unfolding if_some
if_in none s n i = absurd (nowhere i)
if_in (some q) s n i = ⊎_elim (λ e. (e, q, refl)) (λ j. absurd (nowhere j)) (where_in i)

in_if : (o : Option ℕ) (s q : ℕ) → o ≡ some q → In s (if_some o s)
unfolding if_some
in_if none s q e = absurd (never e)
in_if (some p) s q e = here

rows_in : (rs : List Row) (n : ℕ) → In n (row_states rs) →
    (r : Row) × In r rs × (r.to ≡ n) × (q : ℕ) × (r.production ≡ some q)
unfolding row_states
rows_in [] n i = absurd (nowhere i)
rows_in (r ∷ rs) n i = ⊎_elim
    (λ j. let (e, q, h) = if_in r.production r.to n j in (r, here, sym e, q, h))
    (λ j. let (x, k, e, q, h) = rows_in rs n j in (x, there k, e, q, h))
    (Memᴰ.append_cases (if_some r.production r.to) i)

in_rows : (rs : List Row) (r : Row) (q : ℕ) → In r rs → r.production ≡ some q → In r.to (row_states rs)
unfolding row_states
in_rows [] r q i e = absurd (nowhere i)
in_rows (x ∷ rs) r q i e = ⊎_elim
    (λ k. Memᴰ.append_left (row_states rs) (in_if' k))
    (λ j. Memᴰ.append_right (if_some x.production x.to) (in_rows rs r q j e))
    (where_in i)
  where
    in_if' : r ≡ x → In r.to (if_some x.production x.to)
    in_if' k = subst (λ (y : Row). In r.to (if_some y.production y.to)) k (in_if r.production r.to q e)

apart_rows : (rs : List Row) → RowsRise rs → ((x y : Row) → In x rs → In y rs → x.to ≡ y.to → x ≡ y) →
    Apart (row_states rs)
unfolding row_states if_some
apart_rows [] h one = apart_nil
apart_rows (r ∷ rs) (rows_cons h k) one =
    go r.production (apart_rows rs k (λ x y i j. one x y (there i) (there j)))
  where
    new : In r.to (row_states rs) → ⊥
    new i =
        let (x, j, e, q, _) = rows_in rs r.to i in
        let z : x ≡ r = one x r (there j) here e in
        not_before_itself r x (h x j) (ap (λ (y : Row). y.from) z, ap (λ (y : Row). y.terminal) z)

    go : (o : Option ℕ) → Apart (row_states rs) → Apart (if_some o r.to ++ row_states rs)
    go none a = a
    go (some q) a = apart_cons new a

-- ---- a tree's
module _ (t : Table) (tr : Tree t.rows) where
  apart_all : Apart (all_states t)
  unfolding all_states if_some
  apart_all = go t.prod0 (apart_rows t.rows tr.rising (same_to t.rows tr))
    where
      new : In 0 (row_states t.rows) → ⊥
      new i = let (x, j, e, q, _) = rows_in t.rows 0 i in omega (arith, up t.rows tr x j, e)

      go : (o : Option ℕ) → Apart (row_states t.rows) → Apart (if_some o 0 ++ row_states t.rows)
      go none a = a
      go (some q) a = apart_cons new a

  -- where a path leads is state 0 or the to of a row
  seat_row : (v : List ℕ) (x : Seat) → lead t v ≡ some x →
      ((x.state ≡ 0) × (x.production ≡ t.prod0)) ⊎ ((r : Row) × In r t.rows × (x ≡ sit r))
  unfolding path
  seat_row [] x e = inl (cc, cc)
  seat_row (u ∷ v) x e =
      let (y, r, e₁, e₂, e₃) = onward_inv (find t.rows) (lead t v) u x e in
      inr (r, (find_in t.rows y.state u r e₂).0, e₃)

  listed : (v : List ℕ) (x : Seat) (q : ℕ) → lead t v ≡ some x → x.production ≡ some q →
      In x.state (all_states t)
  unfolding all_states
  listed v x q e h = ⊎_elim
      (λ k. Memᴰ.append_left (row_states t.rows)
      (subst (λ (n : ℕ). In n (if_some t.prod0 0)) (sym k.0) (in_if t.prod0 0 q (sym k.1 ∙ h))))
      (λ k.
      let (r, i, z) = k in
      let p : r.production ≡ some q = ap (λ (y : Seat). y.production) (sym z) ∙ h in
      Memᴰ.append_right (if_some t.prod0 0)
      (subst (λ (y : Seat). In y.state (row_states t.rows)) (sym z) (in_rows t.rows r q i p)))
      (seat_row v x e)

  accepting : (v : List ℕ) (x : Seat) → lead t v ≡ some x → In x.state (all_states t) →
      (q : ℕ) × (x.production ≡ some q)
  unfolding all_states
  accepting v x e i = ⊎_elim
      (λ j.
      let (n, q, h) = if_in t.prod0 0 x.state j in
      ⊎_elim
      (λ k. (q, k.1 ∙ h))
      (λ k. let (r, m, z) = k in
      absurd (omega (arith, up t.rows tr r m, ap (λ (y : Seat). y.state) z, n)))
      (seat_row v x e))
      (λ j.
      let (r, m, s, q, h) = rows_in t.rows x.state j in
      ⊎_elim
      (λ k. absurd (omega (arith, up t.rows tr r m, s, k.0)))
      (λ k.
      let (r', m', z) = k in
      let one : r' ≡ r = same_to t.rows tr r' r m' m (ap (λ (y : Seat). y.state) (sym z) ∙ sym s) in
      (q, ap (λ (y : Seat). y.production) z ∙ ap (λ (y : Row). y.production) one ∙ h))
      (seat_row v x e))
      (Memᴰ.append_cases (if_some t.prod0 0) i)

  bounded : (n : ℕ) → In n (all_states t) → n ≤ length t.rows
  unfolding all_states
  bounded n i = ⊎_elim
      (λ j. let (e, q, _) = if_in t.prod0 0 n j in omega (arith, e))
      (λ j. let (r, m, e, q, _) = rows_in t.rows n j in omega (arith, to_le t.rows tr r m, e))
      (Memᴰ.append_cases (if_some t.prod0 0) i)

  seated : (o : Option Seat) (q : ℕ) → said o ≡ some (some q) → (x : Seat) × (o ≡ some x) × (x.production ≡ some q)
  unfolding said
  seated none q e = absurd (never e)
  seated (some x) q e = (x, refl, cc)

  -- a claimed string leads to an accepting state,
  state_of : (σ : List ℕ) → Claimed (view t) σ → (i : ℕ) × Led t i (reverse σ) × In i (all_states t)
  unfolding Led word
  state_of σ claim =
      let (q, e) = claim in
      let (x, e₁, e₂) = seated (lead t (reverse σ)) q (sym (view_word t σ) ∙ e) in
      (x.state, (x, e₁, refl), listed (reverse σ) x q e₁ e₂)

  -- some string leads to each,
  spelled : (i : ℕ) → In i (all_states t) → (σ : List ℕ) × Led t i (reverse σ)
  spelled i j =
      let (v, led) = path_to t tr (suc i) i (omega arith) (bounded i j) in
      (reverse v, subst (Led t i) (sym (reverse-reverse v)) led)

  -- and is claimed
  claimed_at : (i : ℕ) (σ : List ℕ) → In i (all_states t) → Led t i (reverse σ) → Claimed (view t) σ
  unfolding Led word said
  claimed_at i σ j led =
      let (x, e₁, e₂) = led in
      let (q, h) = accepting (reverse σ) x e₁ (subst (λ (n : ℕ). In n (all_states t)) (sym e₂) j) in
      (q, view_word t σ ∙ ap said e₁ ∙ ap some h)

  pub accepting_count : (cs : List (List ℕ)) → Claims (Claimed (view t)) cs → accepting_states t ≡ length cs
  accepting_count cs c =
      let down = into_le (λ σ i. Led t i (reverse σ)) (one_string t tr) cs (all_states t) c.once
      (λ σ j. state_of σ (c.sound σ j)) in
      let up = into_le (λ i σ. Led t i (reverse σ)) (λ i j σ a b. same_state t tr (reverse σ) i j a b)
      (all_states t) cs apart_all back in
      omega (arith, down, up, length_all t)
    where
      back : (i : ℕ) → In i (all_states t) → (σ : List ℕ) × Led t i (reverse σ) × In σ cs
      back i j = let (σ, led) = spelled i j in (σ, led, c.complete σ (claimed_at i σ j led))

  -- the claimed strings can be listed
  pub claims_listed : (cs : List (List ℕ)) × Claims (Claimed (view t)) cs
  claims_listed =
      let (cs, im) = images (λ i σ. Led t i (reverse σ)) (λ i j σ a b. same_state t tr (reverse σ) i j a b)
      (all_states t) apart_all spelled in (
        cs,
        record {
          once = im.once;
          sound = λ σ i. let (n, j, led) = im.from σ i in claimed_at n σ j led;
          complete = λ σ k.
              let (i, led, j) = state_of σ k in
              let (τ, m, here_too) = im.to i j in
              subst (λ (z : List ℕ). In z cs) (one_string t tr τ σ i here_too led) m;
        },
      )

-- ---- of an intake union
module _ (A B T : Table) (u : Union Intake A B T) where
  into_union : (σ : List ℕ) → Either A B σ → Claimed (view T) σ
  unfolding seen
  into_union σ = ⊎_elim
      (λ k.
      let both = u.agree σ k.0 in
      (k.0, u.views σ ∙ claim_left (view A σ) (view B σ) k.0 k.1 (λ q h. both q k.1 h)))
      (λ k. (k.0, u.views σ ∙ claim_right (view A σ) (view B σ) k.0 k.1))

  out_of_union : (σ : List ℕ) → Claimed (view T) σ → Either A B σ
  unfolding seen
  out_of_union σ k = ⊎_elim
      (λ h. inl (k.0, h))
      (λ h. inr (k.0, h))
      (join_claim (view A σ) (view B σ) k.0 (sym (u.views σ) ∙ k.1))

union_of : (A B : Table) → Treed A → Treed B → (m : Made) → united Intake A B ≡ accept m → Union Intake A B m.table
union_of A B a b m e = go (united_views Intake A B a b) e
  where
    go : {g : Ruling Made} → Unites Intake A B g → g ≡ accept m → Union Intake A B m.table
    go (joined {T} u l) h =
        let z : record { table = T; states = suc (length T.rows) } ≡ m = cc in
        subst (λ (x : Made). Union Intake A B x.table) z u
    go (full u l) h = let z : ◌≡◌ {A = ℕ} 0 1 = cc in absurd (omega arith)
    go (at_odds σ x y n) h = let z : ◌≡◌ {A = ℕ} 0 1 = cc in absurd (omega arith)

-- the accepting states number the distinct strings, however they are listed
pub accepting_union : (A B : Table) → Treed A → Treed B → (m : Made) → united Intake A B ≡ accept m →
    (cs : List (List ℕ)) → Claims (Either A B) cs → accepting_states m.table ≡ length cs
accepting_union A B a b m e cs c =
    let u = union_of A B a b m e in
    accepting_count m.table (passes_tree m.table u.treed) cs (record {
      once = c.once;
      sound = λ σ i. into_union A B m.table u σ (c.sound σ i);
      complete = λ σ k. c.complete σ (out_of_union A B m.table u σ k);
    })

-- and of the call: they can be listed
pub accepting_unite : (p : ℤ) (k : ℕ) (ns : List ℤ) (q : ℤ) (l : ℕ) (ms : List ℤ) (room : ℕ) (m : Made) →
    unite Intake p k ns q l ms room ≡ accept m →
    (cs : List (List ℕ)) × Claims (Either (table p k ns) (table q l ms)) cs × (accepting_states m.table ≡ length cs)
accepting_unite p k ns q l ms room m e =
    let A = table p k ns in
    let B = table q l ms in
    let (a, b, d) = unite_passed Intake p k ns q l ms room m e in
    let u = union_of A B a.treed b.treed m d in
    let (cs, c) = claims_listed m.table (passes_tree m.table u.treed) in
    let listed : Claims (Either A B) cs = record {
      once = c.once;
      sound = λ σ i. out_of_union A B m.table u σ (c.sound σ i);
      complete = λ σ k. c.complete σ (into_union A B m.table u σ k);
    } in
    (cs, listed, accepting_union A B a.treed b.treed m d cs listed)
