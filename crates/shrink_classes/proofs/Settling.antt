-- One state more gets its mark, in any order in which a state comes after those its rows lead to.
-- Assumes that the states done before have theirs.
use mathlib.Core.Path.{◌≡◌, refl, sym, ap, ◌∙◌}
use mathlib.Core.Logic.{◌⊎◌, inl, inr, ⊎_elim}
use mathlib.Core.Bool.{cond}
use mathlib.Core.List.{List, []}
use Prim.Native.Nat.{ℕ}
use Rattle.laws.proofs.Members.{In}
use Rattle.paper.specs.declared.Mode.{Mode}
use Rattle.paper.specs.Rows.{Table}
use Rattle.paper.specs.Shrink.{rows_of}
use Rattle.merging.specs.Marks.{compared}
use Rattle.merging.proofs.Redirect.{same_redirect}
use Rattle.shrink_alike.specs.Faces.{production_at, counted}
use Rattle.shrink_classes.specs.Classes.{Like, Settled}

-- rows by marks that agree where they lead
pub counted_agree : (mode : Mode) (t : Table) (C D : ℕ → ℕ) (u : ℕ)
    → ((o : ℕ × ℕ) → In o (rows_of t.rows u) → D o.1 ≡ C o.1)
    → counted mode t D u ≡ counted mode t C u
unfolding counted
counted_agree mode t C D u h =
    ap (λ (l : List (ℕ × ℕ)). cond (compared mode (production_at t u)) l [])
    (same_redirect D C (rows_of t.rows u) h)

module _ (mode : Mode) (t : Table) where
  pub like_sym : (C : ℕ → ℕ) (u v : ℕ) → Like mode t C u v → Like mode t C v u
  like_sym C u v e = record { production = sym e.production; rows = sym e.rows }

  module _ (C D : ℕ → ℕ) (done : ℕ → Type 0) (s : ℕ) (S : Settled mode t C done)
      (ready : (o : ℕ × ℕ) → In o (rows_of t.rows s) → done o.1) (agree : (u : ℕ) → done u → D u ≡ C u) where
    abbrev done' : ℕ → Type 0
    done' u = done u ⊎ (s ≡ u)

    targets : (u : ℕ) → done' u → (o : ℕ × ℕ) → In o (rows_of t.rows u) → done o.1
    targets u (inl d) o i = S.closed u d o i
    targets u (inr q) o i = ready o (rw (← q) at i)

    rows_agree : (u : ℕ) → done' u → counted mode t D u ≡ counted mode t C u
    rows_agree u d = counted_agree mode t C D u (λ o i. agree o.1 (targets u d o i))

    down : (u v : ℕ) → done' u → done' v → Like mode t D u v → Like mode t C u v
    down u v hu hv e = record {
      production = e.production;
      rows = sym (rows_agree u hu) ∙ e.rows ∙ rows_agree v hv;
    }

    lift : (u v : ℕ) → done' u → done' v → Like mode t C u v → Like mode t D u v
    lift u v hu hv e = record {
      production = e.production;
      rows = rows_agree u hu ∙ e.rows ∙ sym (rows_agree v hv);
    }

    old_kept : (u : ℕ) → done u → done' (D u) × (D (D u) ≡ D u)
    old_kept u h =
        let k = S.kept u h in
        rw (agree u h) (inl k.0, agree (C u) k.0 ∙ k.1)

    old_alike : (u : ℕ) → done u → Like mode t D u (D u)
    old_alike u h =
        let k = S.kept u h in
        rw (agree u h) (lift u (C u) (inl h) (inl k.0) (S.alike u h))

    old_unlike : (u v : ℕ) → done u → done v → D u ≡ u → D v ≡ v → Like mode t D u v → u ≡ v
    old_unlike u v hu hv eu ev e =
        S.unlike u v hu hv (sym (agree u hu) ∙ eu) (sym (agree v hv) ∙ ev) (down u v (inl hu) (inl hv) e)

    -- no kept state is like s: s is kept
    pub settle_new : D s ≡ s → ((c : ℕ) → done c → C c ≡ c → Like mode t C s c → ⊥) → Settled mode t D done'
    settle_new e none = record {
      closed = λ u h o i. inl (targets u h o i);
      kept = λ u h. ⊎_elim (λ d. old_kept u d) (λ q. rw (← q) (rw (e, e) (inr refl, refl))) h;
      alike = λ u h. ⊎_elim (λ d. old_alike u d) (λ q. rw (← q) (rw e (record { production = refl; rows = refl }))) h;
      unlike = λ u v hu hv eu ev z.
          ⊎_elim
          (λ du. ⊎_elim
          (λ dv. old_unlike u v du dv eu ev z)
          (λ qv. absurd (none u du (sym (agree u du) ∙ eu) (like_sym C u s (rw (← qv) at (down u v hu hv z)))))
          hv)
          (λ qu. ⊎_elim
          (λ dv. absurd (none v dv (sym (agree v dv) ∙ ev) (rw (← qu) at (down u v hu hv z))))
          (λ qv. sym qu ∙ qv)
          hv)
          hu;
    }

    -- a kept state is like s: s joins it
    pub settle_join : (h : ℕ) → D s ≡ h → (s ≡ h → ⊥) → done h → C h ≡ h → Like mode t C s h → Settled mode t D done'
    settle_join h e sh dh ch w = record {
      closed = λ u g o i. inl (targets u g o i);
      kept = λ u g. ⊎_elim (λ d. old_kept u d) (λ q. rw (← q) (rw e (inl dh, agree h dh ∙ ch))) g;
      alike = λ u g. ⊎_elim (λ d. old_alike u d) (λ q. rw (← q) (rw e (lift s h (inr refl) (inl dh) w))) g;
      unlike = λ u v hu hv eu ev z.
          ⊎_elim
          (λ du. ⊎_elim (λ dv. old_unlike u v du dv eu ev z) (λ qv. absurd (moved v qv ev)) hv)
          (λ qu. absurd (moved u qu eu))
          hu;
    }
      where
        moved : (u : ℕ) → s ≡ u → D u ≡ u → ⊥
        moved u q eu = let x : D s ≡ s = rw (← q) at eu in sh (sym x ∙ e)

  -- states that are done by other words
  pub settled_as : (C : ℕ → ℕ) (P Q : ℕ → Type 0) → ((u : ℕ) → P u → Q u) → ((u : ℕ) → Q u → P u)
      → Settled mode t C P → Settled mode t C Q
  settled_as C P Q f g S = record {
    closed = λ u q o i. f o.1 (S.closed u (g u q) o i);
    kept = λ u q. let k = S.kept u (g u q) in (f (C u) k.0, k.1);
    alike = λ u q. S.alike u (g u q);
    unlike = λ u v p q. S.unlike u v (g u p) (g v q);
  }
