-- Build makes a tree, and its word on each beginning is the join of its strings' words. Assumes nothing.
use mathlib.Core.Path.{◌≡◌, refl, sym, ◌∙◌, ap}
use mathlib.Core.Option.{Option, none, some}
use mathlib.Core.List.{List, [], ◌∷◌, reverse, reverse_aux, nil≢cons}
use Prim.Native.Nat.{ℕ}
use Rattle.paper.specs.Rows.{Row, Table, find}
use Rattle.paper.specs.declared.Mode.TheVariants.{Intake}
use Rattle.paper.specs.Predict.{or_else}
use Rattle.paper.specs.Build.{insert, give, Standing, enter, walk_in, add_string, add_strings, built}
use Rattle.trees.specs.Reach.{Seat, Finder, sit, seat_of, onward, Word, said}
use Rattle.trees.specs.Views.{merge, join}
use Rattle.trees.proofs.Paint.{find_give}
use Rattle.trees.proofs.Paths.{path, word, onward_some}
use Rattle.trees.proofs.Grown.{grown_here}
use Rattle.trees.proofs.Tree.{Tree, no_rows, next_row, grown_insert, tree_insert, tree_give}
use Rattle.trees.proofs.Words.{join_none, join_assoc, only, only_here, only_off}
use Rattle.trees.proofs.Words.{grown_word, given_word, known_word}

-- The words on the beginnings behind w on the way along σ.
unfoldable pub along : List ℕ → List ℕ → List ℕ → Word
along w [] v = none
along w (t ∷ σ) v = join Intake (only (t ∷ w) none v) (along (t ∷ w) σ v)

-- After a walk from the rows rs to where u leads.
pub record Walked (p : Option ℕ) (rs : List Row) (w : Standing) (u : List ℕ) (on : List ℕ → Word) : Type 0 where
  pub tree : Tree w.rows
  pub seat : Seat
  pub at : path p (find w.rows) u ≡ some seat
  pub is : seat.state ≡ w.state
  pub words : (v : List ℕ) → said (path p (find w.rows) v) ≡ join Intake (said (path p (find rs) v)) (on v)

module _ (p : Option ℕ) where
  one_step : (rs : List Row) (w : List ℕ) (x : Seat) (t : ℕ) → Tree rs → path p (find rs) w ≡ some x →
      (o : Option Row) → find rs x.state t ≡ o →
      Walked p rs (enter rs x.state t o) (t ∷ w) (only (t ∷ w) none)
  unfolding enter path
  one_step rs w x t tr e none k =
      let r = next_row rs x.state t none in
      let f' : Finder = find (insert r rs) in
      let g = grown_insert p rs w x t none tr e k in
      record {
        tree = tree_insert p rs w x t none tr e k;
        seat = sit r;
        at = grown_here p (find rs) f' w x t r g;
        is = refl;
        words = grown_word Intake p (find rs) f' w x t r g;
      }
  one_step rs w x t tr e (some r) k =
      let h = onward_some (find rs) (path p (find rs) w) t x e r k in
      record {
        tree = tr;
        seat = sit r;
        at = h;
        is = refl;
        words = known_word p (find rs) (t ∷ w) (sit r) h;
      }

  pub walked : (σ : List ℕ) (s : Standing) (w : List ℕ) (x : Seat) → Tree s.rows →
      path p (find s.rows) w ≡ some x → x.state ≡ s.state →
      Walked p s.rows (walk_in s σ) (reverse_aux σ w) (along w σ)
  unfolding walk_in along
  walked [] s w x tr e i = record { tree = tr; seat = x; at = e; is = i; words = λ v. sym (join_none _ _) }
  walked (t ∷ σ) s w x tr e i = rw (← i) (
      let rs = s.rows in
      let s' = enter rs x.state t (find rs x.state t) in
      let a = one_step rs w x t tr e (find rs x.state t) refl in
      let b = walked σ s' (t ∷ w) a.seat a.tree a.at a.is in
      record {
        tree = b.tree;
        seat = b.seat;
        at = b.at;
        is = b.is;
        words = λ v. b.words v
            ∙ ap (λ (o : Word). join Intake o (along (t ∷ w) σ v)) (a.words v) ∙ join_assoc _ _ _ _;
      })

-- What one string says under the production q; what a list of strings says.
unfoldable pub string_word : ℕ → List ℕ → List ℕ → Word
string_word q σ v = join Intake (along [] σ v) (only (reverse σ) (some q) v)

unfoldable pub strings_word : ℕ → List (List ℕ) → List ℕ → Word
strings_word q [] v = none
strings_word q (σ ∷ σs) v = join Intake (string_word q σ v) (strings_word q σs v)

pub record Added (t t' : Table) (on : List ℕ → Word) : Type 0 where
  pub tree : Tree t'.rows
  pub words : (v : List ℕ) → word t' v ≡ join Intake (word t v) (on v)

pub add_string_good : (q : ℕ) (t : Table) (σ : List ℕ) → Tree t.rows → Added t (add_string q t σ) (string_word q σ)
unfolding add_string give string_word merge or_else path word
add_string_good q t σ tr =
    let s : Standing = record { rows = t.rows; state = 0 } in
    let w = walk_in s σ in
    let u : Table = record { prod0 = t.prod0; k = t.k; rows = w.rows } in
    let a = walked t.prod0 σ s [] (record { state = 0; production = t.prod0 }) tr refl refl in
    let f' : Finder = find (give w.state (some q) u).rows in
    let g = given_word Intake t.prod0 (find w.rows) f' (reverse σ) a.seat w.state (some q)
    a.tree.branching (find_give w.state (some q) u) a.at a.is in
    record {
      tree = tree_give w.state (some q) u a.tree;
      words = λ v. g v
          ∙ ap (λ (o : Word). join Intake o (only (reverse σ) (some q) v)) (a.words v) ∙ join_assoc _ _ _ _;
    }

pub add_strings_good : (q : ℕ) (σs : List (List ℕ)) (t : Table) → Tree t.rows →
    Added t (add_strings q t σs) (strings_word q σs)
unfolding add_strings strings_word
add_strings_good q [] t tr = record { tree = tr; words = λ v. sym (join_none _ _) }
add_strings_good q (σ ∷ σs) t tr =
    let a = add_string_good q t σ tr in
    let b = add_strings_good q σs (add_string q t σ) a.tree in
    record {
      tree = b.tree;
      words = λ v. b.words v
          ∙ ap (λ (o : Word). join Intake o (strings_word q σs v)) (a.words v) ∙ join_assoc _ _ _ _;
    }

abbrev pub nothing : Table
nothing = record { prod0 = none; k = 0; rows = [] }

empty_word : (v : List ℕ) → word nothing v ≡ only [] none v
unfolding word path said find onward seat_of
empty_word [] = sym (only_here [] [] none refl)
empty_word (t ∷ v) =
    ap said (go (path none (find []) v)) ∙ sym (only_off [] (t ∷ v) none (λ e. nil≢cons (sym e)))
  where
    go : (o : Option Seat) → onward (find []) o t ≡ none
    go none = refl
    go (some x) = refl

-- Build: a tree, which says what its strings say.
pub built_tree : (q : ℕ) (σs : List (List ℕ)) → Tree (built q σs).rows
unfolding built
built_tree q [] = no_rows
built_tree q (σ ∷ σs) = (add_strings_good q (σ ∷ σs) nothing no_rows).tree

pub built_words : (q : ℕ) (σ : List ℕ) (σs : List (List ℕ)) (v : List ℕ) →
    word (built q (σ ∷ σs)) v ≡ join Intake (only [] none v) (strings_word q (σ ∷ σs) v)
unfolding built
built_words q σ σs v =
    (add_strings_good q (σ ∷ σs) nothing no_rows).words v
    ∙ ap (λ (o : Word). join Intake o (strings_word q (σ ∷ σs) v)) (empty_word v)
