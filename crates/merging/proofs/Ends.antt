-- The lowest and the highest state of a mark, and the heads. Assumes that the states rise.
use mathlib.Core.Path.{◌≡◌, refl, sym, ◌∙◌, ap, subst}
use mathlib.Core.Logic.{⊎_elim, ◌⊎◌, inl, inr}
use mathlib.Core.Bool.{Bool, true, false, cond, false≢true}
use mathlib.Core.List.{List, [], ◌∷◌}
use Prim.Native.Nat.{ℕ, suc, ◌≤◌}
use native.Mathlib.Omega.{arith}
use lib.ListN.{length}
use lib.Dec.{eqb}
use Rattle.laws.proofs.Tests.{Test, same, apart, test}
use Rattle.laws.proofs.Members.{In, here, there, nowhere, where_in}
use Rattle.merging.specs.Numbers.{Ascending, asc_nil, asc_cons}
use Rattle.merging.specs.Marks.{lowest_of, highest_of, heads}

-- x is the lowest of the states that have the mark m
pub record Lowest (mark : ℕ → ℕ) (ss : List ℕ) (m x : ℕ) : Type 0 where
  pub is_in : In x ss
  pub marked : mark x ≡ m
  pub low : (s : ℕ) → In s ss → mark s ≡ m → x ≤ s

-- x is the highest of them
pub record Highest (mark : ℕ → ℕ) (ss : List ℕ) (m x : ℕ) : Type 0 where
  pub is_in : In x ss
  pub marked : mark x ≡ m
  pub high : (s : ℕ) → In s ss → mark s ≡ m → s ≤ x

module _ (mark : ℕ → ℕ) where
  pub lowest : (ss : List ℕ) → Ascending ss → (s m : ℕ) → In s ss → mark s ≡ m →
      Lowest mark ss m (lowest_of mark ss m)
  unfolding lowest_of
  lowest [] a s m i e = absurd (nowhere i)
  lowest (x ∷ ss) (asc_cons h a) s m i e = go (test (mark x) m) (where_in i) (λ j. lowest ss a s m j e)
    where
      go : Test (mark x) m (eqb (mark x) m) → (s ≡ x) ⊎ In s ss → (In s ss → Lowest mark ss m (lowest_of mark ss m)) →
          Lowest mark (x ∷ ss) m (cond (eqb (mark x) m) x (lowest_of mark ss m))
      go (same f t) j ih = rw t (record {
        is_in = here;
        marked = f;
        low = λ y k _. ⊎_elim (λ z. omega (arith, z)) (λ z. omega (arith, h y z)) (where_in k);
      })
      go (apart f t) (inl j) ih = absurd (f (ap mark (sym j) ∙ e))
      go (apart f t) (inr j) ih = let l = ih j in rw t (record {
        is_in = there l.is_in;
        marked = l.marked;
        low = λ y k g. ⊎_elim (λ z. absurd (f (ap mark (sym z) ∙ g))) (λ z. l.low y z g) (where_in k);
      })

  -- what the lowest is, by its own words
  pub lowest_is : (ss : List ℕ) → Ascending ss → (m x : ℕ) → Lowest mark ss m x → lowest_of mark ss m ≡ x
  lowest_is ss a m x l =
      let k = lowest ss a x m l.is_in l.marked in
      omega (arith, k.low x l.is_in l.marked, l.low (lowest_of mark ss m) k.is_in k.marked)

  -- the highest of the list, or what stood before it where none has the mark
  data Last (h m : ℕ) (ss : List ℕ) : Type 0 where
    last_in : (x : ℕ) → highest_of mark h ss m ≡ x → Highest mark ss m x → Last h m ss
    last_out : highest_of mark h ss m ≡ h → ((s : ℕ) → In s ss → mark s ≡ m → ⊥) → Last h m ss

  last_of : (h m : ℕ) (ss : List ℕ) → Ascending ss → Last h m ss
  unfolding highest_of
  last_of h m [] a = last_out refl (λ s i e. nowhere i)
  last_of h m (x ∷ ss) (asc_cons l a) = go (test (mark x) m) (λ g. last_of g m ss a)
    where
      more : (b : Bool) → eqb (mark x) m ≡ b → (b ≡ true → mark x ≡ m) → (b ≡ false → mark x ≡ m → ⊥) →
          Last (cond b x h) m ss → Last h m (x ∷ ss)
      more b e is off (last_in y f k) = last_in y
          (ap (λ (t : Bool). highest_of mark (cond t x h) ss m) e ∙ f)
          (record {
            is_in = there k.is_in;
            marked = k.marked;
            high = λ s i g.
                ⊎_elim (λ z. omega (arith, z, l y k.is_in)) (λ z. k.high s z g) (where_in i);
          })
      more true e is off (last_out f k) = last_in x
          (ap (λ (t : Bool). highest_of mark (cond t x h) ss m) e ∙ f)
          (record {
            is_in = here;
            marked = is refl;
            high = λ s i g. ⊎_elim (λ z. omega (arith, z)) (λ z. absurd (k s z g)) (where_in i);
          })
      more false e is off (last_out f k) = last_out
          (ap (λ (t : Bool). highest_of mark (cond t x h) ss m) e ∙ f)
          (λ s i g. ⊎_elim (λ z. off refl (ap mark (sym z) ∙ g)) (λ z. k s z g) (where_in i))

      go : Test (mark x) m (eqb (mark x) m) → ((g : ℕ) → Last g m ss) → Last h m (x ∷ ss)
      go (same f t) ih = more true t (λ _. f) (λ z. absurd (false≢true (sym z))) (ih x)
      go (apart f t) ih = more false t (λ z. absurd (false≢true z)) (λ _. f) (ih h)

  pub highest : (ss : List ℕ) → Ascending ss → (h s m : ℕ) → In s ss → mark s ≡ m →
      Highest mark ss m (highest_of mark h ss m)
  highest ss a h s m i e = go (last_of h m ss a)
    where
      go : Last h m ss → Highest mark ss m (highest_of mark h ss m)
      go (last_in x f k) = subst (Highest mark ss m) (sym f) k
      go (last_out f k) = absurd (k s i e)

  pub highest_is : (ss : List ℕ) → Ascending ss → (h m x : ℕ) → Highest mark ss m x → highest_of mark h ss m ≡ x
  highest_is ss a h m x l =
      let k = highest ss a h x m l.is_in l.marked in
      omega (arith, k.high x l.is_in l.marked, l.high (highest_of mark h ss m) k.is_in k.marked)

  -- ---- heads

  pub in_heads : (all ss : List ℕ) (h : ℕ) → In h (heads mark all ss) → In h ss × (lowest_of mark all (mark h) ≡ h)
  unfolding heads
  in_heads all [] h i = absurd (nowhere i)
  in_heads all (s ∷ ss) h i = go (test (lowest_of mark all (mark s)) s) i (in_heads all ss h)
    where
      c : ℕ
      c = lowest_of mark all (mark s)

      later : In h ss × (lowest_of mark all (mark h) ≡ h) → In h (s ∷ ss) × (lowest_of mark all (mark h) ≡ h)
      later k = (there k.0, k.1)

      go : Test c s (eqb c s) → In h (cond (eqb c s) (s ∷ heads mark all ss) (heads mark all ss)) →
          (In h (heads mark all ss) → In h ss × (lowest_of mark all (mark h) ≡ h)) →
          In h (s ∷ ss) × (lowest_of mark all (mark h) ≡ h)
      go (same e t) j ih = ⊎_elim
          (λ z. (
            subst (λ (x : ℕ). In x (s ∷ ss)) (sym z) here,
            ap (λ (x : ℕ). lowest_of mark all (mark x)) z ∙ e ∙ sym z,
          ))
          (λ z. later (ih z))
          (where_in (rw t at j))
      go (apart e t) j ih = later (ih (rw t at j))

  pub heads_in : (all ss : List ℕ) (h : ℕ) → In h ss → lowest_of mark all (mark h) ≡ h → In h (heads mark all ss)
  unfolding heads
  heads_in all [] h i e = absurd (nowhere i)
  heads_in all (s ∷ ss) h i e = go (test (lowest_of mark all (mark s)) s) (where_in i) (λ j. heads_in all ss h j e)
    where
      c : ℕ
      c = lowest_of mark all (mark s)

      go : Test c s (eqb c s) → (h ≡ s) ⊎ In h ss → (In h ss → In h (heads mark all ss)) →
          In h (cond (eqb c s) (s ∷ heads mark all ss) (heads mark all ss))
      go (same f t) (inl j) ih = rw (t, j) here
      go (same f t) (inr j) ih = rw t (there (ih j))
      go (apart f t) (inl j) ih = absurd (f (ap (λ (x : ℕ). lowest_of mark all (mark x)) (sym j) ∙ e ∙ j))
      go (apart f t) (inr j) ih = rw t (ih j)

  pub heads_ascend : (all ss : List ℕ) → Ascending ss → Ascending (heads mark all ss)
  unfolding heads
  heads_ascend all [] a = asc_nil
  heads_ascend all (s ∷ ss) (asc_cons h a) = go (eqb (lowest_of mark all (mark s)) s) (heads_ascend all ss a)
    where
      go : (b : Bool) → Ascending (heads mark all ss) → Ascending (cond b (s ∷ heads mark all ss) (heads mark all ss))
      go true ih = asc_cons (λ x i. h x (in_heads all ss x i).0) ih
      go false ih = ih

  pub heads_length : (all ss : List ℕ) → length (heads mark all ss) ≤ length ss
  unfolding heads
  heads_length all [] = omega arith
  heads_length all (s ∷ ss) = go (eqb (lowest_of mark all (mark s)) s) (heads_length all ss)
    where
      go : (b : Bool) → length (heads mark all ss) ≤ length ss →
          length (cond b (s ∷ heads mark all ss) (heads mark all ss)) ≤ suc (length ss)
      go true ih = omega arith
      go false ih = omega arith
