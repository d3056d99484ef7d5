-- Demand 3 up to shrink: lists within bounds with at most 1,024 beginnings, built and united one after the other in
-- intake mode, are refused only by 8, exactly when one string stands under two productions; otherwise the result is a
-- tree that says what the lists say. Assumes nothing.
use mathlib.Core.Path.{◌≡◌, refl, sym, ◌∙◌, subst, fun_ext}
use mathlib.Core.Option.{some}
use mathlib.Core.List.Memᴰ
use mathlib.Core.List.{List, [], ◌∷◌, ◌++◌, append-nil}
use Prim.Native.Nat.{ℕ, suc, max, ◌≤◌}
use native.Mathlib.Omega.{arith}
use lib.ListN.{length}
use lib.Seq.{append_snoc}
use Rattle.laws.proofs.Members.{In, here}
use Rattle.paper.specs.declared.Mode.TheVariants.{Intake}
use Rattle.paper.specs.Rows.{Table}
use Rattle.paper.specs.Answers.{Ruling, then, Made}
use Rattle.paper.specs.Build.{built}
use Rattle.paper.specs.Unite.{united_k, united}
use Rattle.paper.specs.Lists.{Opening, longest, all_beginnings, distinct}
use Rattle.trees.specs.Reach.{Word, view}
use Rattle.trees.specs.Views.{join, seen}
use Rattle.trees.specs.Trees.{Treed, Sound}
use Rattle.trees.specs.Bounds.{Bounded}
use Rattle.trees.specs.Unions.{Union, Unites}
use Rattle.trees.specs.Unions as unions
use Rattle.trees.specs.Says.{Says}
use Rattle.trees.specs.Chain.{unite_made, unite_rest, chain, UnitedLists, Chained}
use Rattle.trees.specs.Chain as chains
use Rattle.trees.proofs.Checked.{passes_tree}
use Rattle.trees.proofs.Fits.{Fits, fits_range}
use Rattle.trees.proofs.BuildSound.{built_k, built_fits, built_treed}
use Rattle.trees.proofs.UniteSound.{Holds, holds, united_views, united_fits}
use Rattle.trees.proofs.Tells.{Tells, tells_built, tells_join, tells_says, stands_more}
use Rattle.trees.proofs.Beginnings.{tells_size, tells_count}
use Rattle.trees.proofs.Calls.{counted, build_accepts, unite_accepts}

longest_append : (xs ys : List Opening) → longest (xs ++ ys) ≡ max (longest xs) (longest ys)
unfolding longest
longest_append [] ys = omega arith
longest_append (x ∷ xs) ys = omega (arith, longest_append xs ys)

tells_same : (D E : List ℕ → Word) (ls : List Opening) → ((σ : List ℕ) → D σ ≡ E σ) → Tells E ls → Tells D ls
tells_same D E ls h t = subst (λ (F : List ℕ → Word). Tells F ls) (sym (fun_ext h)) t

-- A table that some lists have come to.
record Part (done : List Opening) (t : Table) : Type 0 where
  treed : Treed t
  fits : Fits t
  tells : Tells (view t) done
  longest_k : t.k ≡ longest done

built_part : (q : ℕ) (σs : List (List ℕ)) → Bounded (record { production = q; strings = σs }) →
    Part (record { production = q; strings = σs } ∷ []) (built q σs)
unfolding longest
built_part q [] b = absurd (omega (arith, b.filled))
built_part q (σ ∷ σs) b = record {
  treed = built_treed q (σ ∷ σs);
  fits = built_fits q b.number (σ ∷ σs) b.short;
  tells = tells_built q σ σs;
  longest_k = omega (arith, built_k q (σ ∷ σs));
}

-- two parts united
union_part : (done : List Opening) (l : Opening) (a b T : Table) → Part done a → Part (l ∷ []) b →
    Union Intake a b T → Fits T → Part (done ++ (l ∷ [])) T
unfolding seen united_k longest
union_part done l a b T p r u f = record {
  treed = u.treed;
  fits = f;
  tells = tells_same (view T) (λ σ. join Intake (view a σ) (view b σ)) (done ++ (l ∷ [])) u.views
      (tells_join (view a) (view b) done (l ∷ []) p.tells r.tells u.agree);
  longest_k = u.longer ∙ omega (arith, longest_append done (l ∷ []), p.longest_k, r.longest_k);
}

module _ (all : List Opening) (bd : (l : Opening) → In l all → Bounded l)
    (bound : length (distinct (all_beginnings all)) ≤ 1024) where
  Sub : List Opening → Type 0
  Sub ls = (l : Opening) → In l ls → In l all

  size : (done : List Opening) → Sub done → (t : Table) → Treed t → Tells (view t) done →
      suc (length t.rows) ≤ 1024
  unfolding Sub
  size done sub t treed tells = omega (arith, bound, tells_size all done sub t (passes_tree t treed) tells)

  sound : (done : List Opening) → Sub done → (t : Table) → Part done t → Sound t
  sound done sub t p = record {
    ranged = fits_range t (passes_tree t p.treed) p.fits (size done sub t p.treed p.tells);
    treed = p.treed;
  }

  own : (l : Opening) → In l all → Part (l ∷ []) (built l.production l.strings)
  own l i = built_part l.production l.strings (bd l i)

  own_sub : (l : Opening) → In l all → Sub (l ∷ [])
  unfolding Sub
  own_sub l i m j = Memᴰ.cast (Memᴰ.eq_of_singleton j) i

  own_size : (l : Opening) → In l all → suc (length (built l.production l.strings).rows) ≤ 1024
  own_size l i =
      let p = own l i in
      size (l ∷ []) (own_sub l i) (built l.production l.strings) p.treed p.tells

  -- one list more, as `united` has it
  module _ (done rest : List Opening) (l : Opening) (t : Table) (e : all ≡ done ++ l ∷ rest) (p : Part done t) where
    this : In l all
    this = subst (λ (z : List Opening). In l z) (sym e) (Memᴰ.append_right done here)

    before : Sub done
    unfolding Sub
    before m i = subst (λ (z : List Opening). In m z) (sym e) (Memᴰ.append_left (l ∷ rest) i)

    both : Sub (done ++ (l ∷ []))
    unfolding Sub
    both m i = subst (λ (z : List Opening). In m z) (append_snoc done l rest ∙ sym e) (Memᴰ.append_left rest i)

    one_more : (g : Ruling Made) → Unites Intake t (built l.production l.strings) g → Holds Fits g →
        ((u : Table) → Part (done ++ (l ∷ [])) u → Chained all (unite_rest (counted u) rest)) →
        Chained all (then g (λ c. unite_rest c rest))
    unfolding seen Sub
    one_more g (unions.joined {T} u s) (holds f h) ih =
        ih T (union_part done l t (built l.production l.strings) T p (own l this) u f)
    one_more g (unions.full {T} u big) h ih =
        let b : Table = built l.production l.strings in
        let tells : Tells (view T) (done ++ (l ∷ [])) =
        tells_same (view T) (λ σ. join Intake (view t σ) (view b σ)) (done ++ (l ∷ [])) u.views
        (tells_join (view t) (view b) done (l ∷ []) p.tells (own l this).tells u.agree) in
        absurd (omega (arith, big, size (done ++ (l ∷ [])) both T u.treed tells))
    one_more g (unions.at_odds {p = x} {q = y} σ e₁ e₂ n) h ih = chains.clashed (record {
      string = σ;
      first = stands_more done all before σ x (p.tells.claim σ x e₁);
      second = stands_more (l ∷ []) all (own_sub l this) σ y ((own l this).tells.claim σ y e₂);
      differ = n;
    })

    -- the calls build and unite come to that
    next_list : ((u : Table) → Part (done ++ (l ∷ [])) u → Chained all (unite_rest (counted u) rest)) →
        Chained all (unite_rest (counted t) (l ∷ rest))
    unfolding unite_rest
    next_list ih =
        let b : Table = built l.production l.strings in
        let r = own l this in
        let small_b = own_size l this in
        let step : unite_made (counted t) (counted b) ≡ united Intake t b =
        unite_accepts (counted t) (counted b) (sound done before t p) (sound (l ∷ []) (own_sub l this) b r) in
        rw (build_accepts l (bd l this) small_b) (rw step (
        one_more (united Intake t b) (united_views Intake t b p.treed r.treed)
        (united_fits Intake t b p.fits r.fits) ih))

  finish : (l : Opening) (ls : List Opening) → all ≡ l ∷ ls → (t : Table) → Part all t → UnitedLists all (counted t)
  unfolding Sub
  finish l ls e t p = record {
    one_number = λ σ x y a b.
        let z : some (some x) ≡ some (some y) = sym (p.tells.stands σ x a) ∙ p.tells.stands σ y b in
        cc;
    sound = sound all (λ m i. i) t p;
    counted = refl;
    states = tells_count all t (passes_tree t p.treed) p.tells;
    says = subst (λ (z : List Opening). Says t z) (sym e)
        (tells_says t l ls (bd l first).filled (subst (Tells (view t)) e p.tells));
    longest = p.longest_k;
  }
    where
      first : In l all
      first = subst (λ (z : List Opening). In l z) (sym e) here

  rest_good : (l : Opening) (ls : List Opening) → all ≡ l ∷ ls → (rest done : List Opening) (t : Table) →
      all ≡ done ++ rest → Part done t → Chained all (unite_rest (counted t) rest)
  unfolding unite_rest
  rest_good l ls e [] done t d p =
      let whole : done ≡ all = sym (d ∙ append-nil done) in
      chains.united (finish l ls e t (subst (λ (z : List Opening). Part z t) whole p))
  rest_good l ls e (m ∷ rest) done t d p = next_list done rest m t d p
      (λ u p'. rest_good l ls e rest (done ++ (m ∷ [])) u (d ∙ sym (append_snoc done m rest)) p')

pub chain_good : (l : Opening) (ls : List Opening) → ((m : Opening) → In m (l ∷ ls) → Bounded m) →
    length (distinct (all_beginnings (l ∷ ls))) ≤ 1024 → Chained (l ∷ ls) (chain l ls)
unfolding chain
chain_good l ls bd bound =
    let all : List Opening = l ∷ ls in
    let i : In l (l ∷ ls) = here in
    rw (build_accepts l (bd l i) (own_size (l ∷ ls) bd bound l i))
    (rest_good (l ∷ ls) bd bound l ls refl ls (l ∷ []) (built l.production l.strings) refl
    (own (l ∷ ls) bd bound l i))
