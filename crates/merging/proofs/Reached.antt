-- Intake shrink keeps what every string of tokens reaches. Assumes marks of a table whose rows climb and that has
-- one production for each state (`shape` and `split` do not refuse).
use mathlib.Core.Path.{◌≡◌, refl, sym, ◌∙◌, ap, ap₂}
use mathlib.Core.Bool.{false}
use mathlib.Core.Option.{Option, none, some, map, some-injective}
use mathlib.Core.List.{List, [], ◌∷◌}
use Prim.Native.Nat.{ℕ}
use Rattle.laws.proofs.Tests.{never}
use Rattle.laws.proofs.Members.{In}
use Rattle.laws.proofs.Find.{find_in}
use Rattle.paper.specs.declared.Mode.TheVariants.{Intake}
use Rattle.paper.specs.Rows.{Row, Table, find}
use Rattle.paper.specs.Checks.{shape, split}
use Rattle.paper.specs.Shrink.{rows_of, redirect}
use Rattle.merging.specs.Marks.{
  highest_of,
  head_of,
  source_of,
  heads_of,
  place_of,
  place_among,
  marked_rows,
  compared,
  Marks,
}
use Rattle.merging.specs.Reach.{reaches_from}
use Rattle.merging.proofs.States.{to_state}
use Rattle.merging.proofs.Ruled.{ss, row_production}
use Rattle.merging.proofs.Shrunk.{head_lowest, head_is_head, head_production, source_rows, heads_ascending}
use Rattle.merging.proofs.Redirect.{redirect_over}
use Rattle.merging.proofs.Find.{out, find_out, out_redirect}
use Rattle.merging.proofs.HeadRows.{rows_marked, into_head}

module _ (t : Table) (climbs : shape t ≡ false) (whole : split t ≡ false)
    (mark : ℕ → ℕ) (k : Marks Intake t mark) where
  abbrev hs : List ℕ
  hs = heads_of mark t

  -- the rows of the shrunk table
  abbrev us : List Row
  us = marked_rows mark t hs hs

  abbrev c : ℕ → ℕ
  c s = head_of mark t s

  -- the place of a state in the shrunk table
  abbrev f : ℕ → ℕ
  f s = place_of mark t s

  -- where a row leads, and with what production
  abbrev seat : Row → ℕ × Option ℕ
  seat r = (r.to, r.production)

  -- the rows of a state's place are the state's, led to places
  image_rows : (s : ℕ) → In s (ss t) → rows_of us (f s) ≡ redirect f (rows_of t.rows s)
  unfolding compared
  image_rows s i =
      let source : source_of mark t (c s) ≡ source_of mark t s =
      ap (highest_of mark 0 (ss t)) (head_lowest Intake t climbs mark k s i).marked in
      rows_marked mark t hs hs (heads_ascending Intake t climbs mark k) (λ x j. j) (c s)
      (head_is_head Intake t climbs mark k s i)
      ∙ ap (λ (x : ℕ). redirect f (rows_of t.rows x)) source
      ∙ redirect_over c f (rows_of t.rows (source_of mark t s)) (rows_of t.rows s)
      (λ o p _ _ z. ap (place_among hs) z) (sym (source_rows Intake t climbs mark k s i refl))

  -- One token further in both tables.
  pub step : (s u : ℕ) → In s (ss t) →
      map seat (find us (f s) u) ≡ map (λ (r : Row). (f r.to, r.production)) (find t.rows s u)
  step s u i = go (find us (f s) u) refl (find t.rows s u) refl
      (sym (find_out us (f s) u) ∙ ap (λ (os : List (ℕ × ℕ)). out os u) (image_rows s i)
      ∙ out_redirect f (rows_of t.rows s) u ∙ ap (map led) (find_out t.rows s u))
    where
      led : ℕ × ℕ → ℕ × ℕ
      led o = (o.0, f o.1)

      pair : Row → ℕ × ℕ
      pair r = (r.terminal, r.to)

      go : (x : Option Row) → find us (f s) u ≡ x → (y : Option Row) → find t.rows s u ≡ y →
          map pair x ≡ map led (map pair y) →
          map seat x ≡ map (λ (r : Row). (f r.to, r.production)) y
      go none d none e z = refl
      go none d (some r) e z = absurd (never z)
      go (some q) d none e z = absurd (never (sym z))
      go (some q) d (some r) e z =
          let row = (find_in t.rows s u r e).0 in
          let state = to_state t.rows r row in
          let to : q.to ≡ f r.to =
          ap (λ (w : ℕ × ℕ). w.1) (some-injective (pair q) (led (pair r)) z) in
          let production : q.production ≡ r.production =
          into_head Intake t climbs mark k (c r.to) (head_is_head Intake t climbs mark k r.to state) q
          (find_in us (f s) u q d).0 to
          ∙ head_production Intake t climbs mark k r.to state ∙ row_production t whole r row in
          λ i. some (to i, production i)

  pub same_from : (σ : List ℕ) (s : ℕ) (p : Option ℕ) → In s (ss t) →
      reaches_from us (f s) p σ ≡ reaches_from t.rows s p σ
  unfolding reaches_from
  same_from [] s p i = refl
  same_from (u ∷ σ) s p i =
      go (find us (f s) u) (find t.rows s u) refl (step s u i)
      (λ r j. same_from σ r.to r.production j)
    where
      After : List Row → Option Row → Option (Option ℕ)
      After rs o = elim o [ none ↦ none | some r ↦ reaches_from rs r.to r.production σ ]

      go : (x y : Option Row) → find t.rows s u ≡ y →
          map seat x ≡ map (λ (r : Row). (f r.to, r.production)) y →
          ((r : Row) → In r.to (ss t) →
          reaches_from us (f r.to) r.production σ ≡ reaches_from t.rows r.to r.production σ) →
          After us x ≡ After t.rows y
      go none none e z ih = refl
      go none (some r) e z ih = absurd (never z)
      go (some r) none e z ih = absurd (never (sym z))
      go (some r) (some q) e z ih =
          let pair : seat r ≡ (f q.to, q.production) =
          some-injective (seat r) (f q.to, q.production) z in
          let to : r.to ≡ f q.to = ap (λ (w : ℕ × Option ℕ). w.0) pair in
          let production : r.production ≡ q.production = ap (λ (w : ℕ × Option ℕ). w.1) pair in
          ap₂ (λ (a : ℕ) (b : Option ℕ). reaches_from us a b σ) to production
          ∙ ih q (to_state t.rows q (find_in t.rows s u q e).0)
