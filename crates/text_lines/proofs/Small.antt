-- The numbers and the places that lines in form give. Assumes nothing.
use Rattle.std.specs.Prelude.{Option, Some, None, IfSome}
use Prim.Native.Nat.{ℕ, ◌+◌, ◌<◌, ◌≤◌}
use mathlib.Core.Path.{◌≡◌, refl, sym}
use mathlib.Core.Bool.{Bool, true, false, cond}
use mathlib.Core.List.{List}
use native.Mathlib.Omega.{arith}
use borrow.Author.Tests.{ltb-true}
use lib.Dec.{ltb}
use lib.ListN.{length, drop}
use Rattle.paper.specs.Rows.{accepting}
use Rattle.paper.specs.Words.{bytes}
use Rattle.rows.specs.Places.{code}
use Rattle.rows.proofs.Rest.{by_test}
use Rattle.text_lines.specs.declared.reading.RowLine.{RowLine}
use Rattle.text_lines.specs.declared.reading.HeadLine.{HeadLine}
use Rattle.text_pieces.specs.Pieces.{field_at, last_at, ends_at}
use Rattle.text_lines.specs.Reading.{on_is, row_of, head_of, line_end, row_from, head_from, front}
use Rattle.text_lines.proofs.Ended.{no_place}
use Rattle.text_pieces.proofs.Forms.{field_within, last_within}

-- what holds of what follows a number, if there is one
on_each : {A B : Type 0} (P : B → Type 0) (next : A → ℕ → Option B) (x : Option (A × ℕ)) →
    ((v : A) (n : ℕ) → x ≡ Some (v, n) → IfSome (next v n) P) → IfSome (on_is x next) P
on_each P next (Some (v, n)) k = k v n refl
on_each P next None k = tt

if_so : {B : Type 0} (P : B → Type 0) (b : Bool) (x : B) → P x → IfSome (cond b (Some x) None) P
if_so P true x p = p
if_so P false x p = tt

if_some : {B : Type 0} (P : B → Type 0) (o : Option B) (x : B) → o ≡ Some x → IfSome o P → P x
if_some P o x e h = rw e at h

record RowSmall (next : ℕ) (r : RowLine) : Type 0 where
  from : r.from < 100000
  terminal : r.terminal < 100000
  to : r.to < 100000
  production : code (accepting r.production) ≤ 100000
  place : r.next ≡ next

row_small : (l : List ℕ) (next : ℕ) → IfSome (row_of l next) (RowSmall next)
unfolding row_of
row_small l next =
    on_each (RowSmall next) _ (field_at l 0 (bytes "Trans(")) (λ f a e₁.
    let h₁ = field_within l 0 (bytes "Trans(") (omega arith) f a e₁ in
    on_each (RowSmall next) _ (field_at l a (bytes ", ")) (λ t b e₂.
    let h₂ = field_within l a (bytes ", ") h₁.inside t b e₂ in
    on_each (RowSmall next) _ (field_at l b (bytes ", ")) (λ g c e₃.
    let h₃ = field_within l b (bytes ", ") h₂.inside g c e₃ in
    on_each (RowSmall next) _ (last_at l c (bytes ", ")) (λ p d e₄.
    let h₄ = last_within l c (bytes ", ") h₃.inside p d e₄ in
    if_so (RowSmall next) (ends_at l d (bytes "),")) _
    (record {
      from = h₁.small;
      terminal = h₂.small;
      to = h₃.small;
      production = omega (arith, h₄.small);
      place = refl;
    })))))

beyond : (t : List ℕ) (at : ℕ) → at ≤ line_end t at
unfolding line_end
beyond t at = omega arith

-- a row from a place on
pub record RowAt (t : List ℕ) (at : ℕ) (r : RowLine) : Type 0 where
  pub from : r.from < 100000
  pub terminal : r.terminal < 100000
  pub to : r.to < 100000
  pub production : code (accepting r.production) ≤ 100000
  pub place : r.next ≡ line_end t at + 1
  pub later : at < r.next
  pub inside : r.next ≤ length t

pub row_from_at : (t : List ℕ) (at : ℕ) (r : RowLine) → row_from t at ≡ Some r → RowAt t at r
unfolding row_from
row_from_at t at r e = by_test (ltb (line_end t at) (length t))
    (λ h.
    let q : row_of (front (drop at t)) (line_end t at + 1) ≡ Some r = rw h at e in
    let s : RowSmall (line_end t at + 1) r = if_some _ _ _ q (row_small (front (drop at t)) (line_end t at + 1)) in
    record {
      from = s.from;
      terminal = s.terminal;
      to = s.to;
      production = s.production;
      place = s.place;
      later = omega (arith, s.place, beyond t at);
      inside = omega (arith, s.place, ltb-true (line_end t at) (length t) h);
    })
    (λ h. no_place (rw h at e))

-- the head from the text's front on
pub record HeadAt (t : List ℕ) (at : ℕ) (h : HeadLine) : Type 0 where
  pub prod0 : code (accepting h.prod0) ≤ 100000
  pub few : h.k < 100000
  pub place : h.next ≡ line_end t at + 1
  pub inside : h.next ≤ length t

record HeadSmall (next : ℕ) (h : HeadLine) : Type 0 where
  prod0 : code (accepting h.prod0) ≤ 100000
  few : h.k < 100000
  place : h.next ≡ next

head_small : (l : List ℕ) (next : ℕ) → IfSome (head_of l next) (HeadSmall next)
unfolding head_of
head_small l next =
    on_each (HeadSmall next) _ (last_at l 0 (bytes "Dfa(")) (λ p a e₁.
    let h₁ = last_within l 0 (bytes "Dfa(") (omega arith) p a e₁ in
    on_each (HeadSmall next) _ (field_at l a (bytes ", ")) (λ k b e₂.
    let h₂ = field_within l a (bytes ", ") h₁.inside k b e₂ in
    if_so (HeadSmall next) (ends_at l b (bytes ")")) _
    (record { prod0 = omega (arith, h₁.small); few = h₂.small; place = refl })))

pub head_from_at : (t : List ℕ) (at : ℕ) (r : HeadLine) → head_from t at ≡ Some r → HeadAt t at r
unfolding head_from
head_from_at t at r e = by_test (ltb (line_end t at) (length t))
    (λ h.
    let q : head_of (front (drop at t)) (line_end t at + 1) ≡ Some r = rw h at e in
    let s : HeadSmall (line_end t at + 1) r = if_some _ _ _ q (head_small (front (drop at t)) (line_end t at + 1)) in
    record {
      prod0 = s.prod0;
      few = s.few;
      place = s.place;
      inside = omega (arith, s.place, ltb-true (line_end t at) (length t) h);
    })
    (λ h. no_place (rw h at e))

-- the same of what was answered
pub row_known : (t : List ℕ) (at : ℕ) (o : Option RowLine) → o ≡ row_from t at →
    IfSome o (λ r. (r.from < 100000) × (r.terminal < 100000) × (at < r.next) × (r.next ≤ length t))
row_known t at (Some r) e = let h = row_from_at t at r (sym e) in (h.from, h.terminal, h.later, h.inside)
row_known t at None e = tt

pub head_known : (t : List ℕ) (at : ℕ) (o : Option HeadLine) → o ≡ head_from t at → IfSome o (λ h. h.next ≤ length t)
head_known t at (Some h) e = (head_from_at t at h (sym e)).inside
head_known t at None e = tt
