-- All strings, each read from the rest of the token slice: the table so far, and what is left to add.
-- Assumes nothing.
use mathlib.Core.Path.{◌≡◌, ap, sym, ◌∙◌, subst}
use mathlib.Core.Bool.{Bool, cond}
use mathlib.Core.Option.{Option, none, some}
use mathlib.Core.List.{List, [], ◌∷◌, map}
use Prim.Native.Nat.{ℕ, max, ◌+◌, ◌<◌, ◌≤◌}
use native.Mathlib.Omega.{arith}
use native.Mathlib.Numerals.{add-one}
use borrow.Author.Tests.{ne_eqb}
use lib.Dec.{eqb}
use lib.ListN.{length, get_or, take, drop, length-drop, drop_of_length-le}
use lib.Seq.{drop-cons, length-take-le}
use Rattle.paper.specs.Rows.{Row, Table}
use Rattle.paper.specs.Build.{give, walk_in, add_string, add_strings, built, strings, sum}
use Rattle.trees.proofs.Paint.{paint, give_rows, length_give}
use Rattle.trees.proofs.Tree.{Tree, no_rows}
use Rattle.trees.proofs.Built.{add_string_good}
use Rattle.grow.specs.declared.Growing.{Growing}
use Rattle.grow.specs.Seen.{rows_of}
use Rattle.build_string.specs.Steps.{standing, Added}
use Rattle.build_checks.proofs.Totals.{sum_next}
use Rattle.build_string.proofs.Walked.{walk_grows}

-- the table so far
abbrev pub so_far : Option ℕ → ℕ → Growing → Table
so_far p k g = record { prod0 = p; k = k; rows = rows_of g }

-- ---- rows never become fewer
string_grows : (q : ℕ) (t : Table) (σ : List ℕ) → length (walk_in (record { rows = t.rows; state = 0 }) σ).rows
    ≤ length (add_string q t σ).rows
unfolding add_string
string_grows q t σ =
    let w = walk_in (record { rows = t.rows; state = 0 }) σ in
    omega (
      arith,
      length_give w.state (some q)
          (record { prod0 = t.prod0; k = max t.k (length σ); rows = w.rows }),
    )

pub strings_grow : (q : ℕ) (t : Table) (σs : List (List ℕ)) → length t.rows ≤ length (add_strings q t σs).rows
unfolding add_strings
strings_grow q t [] = omega arith
strings_grow q t (σ ∷ σs) =
    omega (
      arith,
      walk_grows (record { rows = t.rows; state = 0 }) σ,
      string_grows q t σ,
      strings_grow q (add_string q t σ) σs,
    )

-- ---- the strings from place i on
pub record Listing (q : ℕ) (tokens lengths : List ℕ) (g : Growing) (rest : List ℕ) (p : Option ℕ) (k i : ℕ) : Type 0 where
  pub sums : sum (drop i lengths) ≡ length rest
  pub tree : Tree (rows_of g)
  pub left : built q (strings lengths tokens) ≡ add_strings q (so_far p k g) (strings (drop i lengths) rest)

starts : (q : ℕ) (tokens : List ℕ) (p : Option ℕ) (ns : List ℕ) → p ≡ cond (eqb (length ns) 0) (some q) none
    → built q (strings ns tokens) ≡ add_strings q (record { prod0 = p; k = 0; rows = [] }) (strings ns tokens)
unfolding built strings add_strings
starts q ts p [] d = rw d
starts q ts p (n ∷ ns) d =
    let z : length (n ∷ ns) ≡ 0 → ⊥ = λ e. omega arith in
    let d' : p ≡ none = d ∙ ap (λ (b : Bool). cond b (some q) none) (ne_eqb (length (n ∷ ns)) 0 z) in
    ap (λ (o : Option ℕ). add_strings q (record { prod0 = o; k = 0; rows = [] }) (take n ts ∷ strings ns (drop n ts)))
    (sym d')

pub lists_all : (q : ℕ) (tokens lengths : List ℕ) (g : Growing) (p : Option ℕ) → g.n ≡ 0 → sum lengths ≡ length tokens
    → p ≡ cond (eqb (length lengths) 0) (some q) none → Listing q tokens lengths g tokens p 0 0
lists_all q tokens lengths g p z e o =
    let none_yet : rows_of g ≡ [] = rw z in
    record {
      sums = e;
      tree = rw none_yet no_rows;
      left = starts q tokens p lengths o
          ∙ ap (λ (rs : List Row). add_strings q (record { prod0 = p; k = 0; rows = rs }) (strings lengths tokens))
          (sym none_yet);
    }

module _ (q : ℕ) (tokens lengths : List ℕ) (g : Growing) (rest : List ℕ) (p : Option ℕ) (k i : ℕ)
    (L : Listing q tokens lengths g rest p k i) where
  pub listed : length lengths ≤ i → built q (strings lengths tokens) ≡ so_far p k g
  unfolding strings add_strings
  listed h =
      L.left ∙ ap (λ (ns : List ℕ). add_strings q (so_far p k g) (strings ns rest)) (drop_of_length-le lengths h)

  module _ (h : i < length lengths) where
    abbrev len : ℕ
    len = get_or lengths i 0

    pub len_fits : len ≤ length rest
    len_fits = omega (arith, L.sums, sum_next lengths i h)

    next_string : built q (strings lengths tokens) ≡ add_strings q (add_string q (so_far p k g) (take len rest))
        (strings (drop (i + 1) lengths) (drop len rest))
    unfolding strings add_strings
    next_string =
        L.left ∙ ap (λ (ns : List ℕ). add_strings q (so_far p k g) (strings ns rest)) (drop-cons lengths i 0 h)
        ∙ rw add-one

    pub lists_full : 1023 < length (walk_in (standing g 0) (take len rest)).rows
        → 1023 < length (built q (strings lengths tokens)).rows
    lists_full f =
        let t = so_far p k g in
        let σs = strings (drop (i + 1) lengths) (drop len rest) in
        omega (
          arith,
          ap (λ (x : Table). length x.rows) next_string,
          string_grows q t (take len rest),
          strings_grow q (add_string q t (take len rest)) σs,
        )

    module _ (new : Growing) (s : ℕ) (o : Option ℕ) (a : Added g new s q (take len rest))
        (r : o ≡ cond (eqb s 0) (some q) p) where
      added_string : add_string q (so_far p k g) (take len rest) ≡ so_far o (max k len) new
      unfolding add_string give
      added_string =
          let w = walk_in (standing g 0) (take len rest) in
          let e : cond (eqb w.state 0) (some q) p ≡ o = sym (r ∙ ap (λ (z : ℕ). cond (eqb z 0) (some q) p) a.state) in
          let κ : max k (length (take len rest)) ≡ max k len = ap (max k) (length-take-le len rest len_fits) in
          let ρ : map (paint w.state (some q)) w.rows ≡ rows_of new =
          ap (λ (z : ℕ). map (paint z (some q)) w.rows) (sym a.state) ∙ sym a.rows in
          let γ : (give w.state (some q) (record { prod0 = p; k = k; rows = w.rows })).rows ≡ rows_of new =
          give_rows w.state (some q) (record { prod0 = p; k = k; rows = w.rows }) ∙ ρ in
          λ j. record { prod0 = e j; k = κ j; rows = γ j }

      pub lists_next : Listing q tokens lengths new (drop len rest) o (max k len) (i + 1)
      lists_next = record {
        sums = omega (arith, L.sums, sum_next lengths i h, length-drop len rest, len_fits);
        tree = subst (λ (t : Table). Tree t.rows) added_string
            (add_string_good q (so_far p k g) (take len rest) L.tree).tree;
        left = next_string ∙ ap (λ (t : Table). add_strings q t (strings (drop (i + 1) lengths) (drop len rest)))
            added_string;
      }
