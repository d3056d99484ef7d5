-- A count of the rows that pass a test, in rows of which those from one to another pass it.
-- Assumes nothing.
use mathlib.Core.Path.{◌≡◌, ap, ◌∙◌}
use mathlib.Core.Bool.{Bool, true, false, cond}
use mathlib.Core.List.{List, [], ◌∷◌}
use Prim.Native.Nat.{ℕ, zero, suc, ◌+◌, ◌-◌, ◌*◌, ◌/◌, ◌≤◌, ◌<◌}
use native.Mathlib.Omega.{arith}
use lib.ListN.{length}
use lib.IntN.{ℤ}
use Rattle.paper.specs.Rows.{Row, rows_in}
use Rattle.rows.specs.Places.{row_at, rest}
use Rattle.rows.proofs.Rest.{rest_cons, rest_end}

-- g counts the rows that pass f
pub record Counts (f : Row → Bool) (g : List Row → ℕ) : Type 0 where
  pub zero_rows : g [] ≡ 0
  pub one_row : (r : Row) (rs : List Row) → g (r ∷ rs) ≡ cond (f r) (suc (g rs)) (g rs)

module _ {f : Row → Bool} {g : List Row → ℕ} (c : Counts f g) (ns : List ℤ) where
  pub count_yes : (i : ℕ) → i * 4 + 3 < length ns → f (row_at ns i) ≡ true → g (rest ns i) ≡ suc (g (rest ns (i + 1)))
  count_yes i l e =
      ap g (rest_cons ns i l) ∙ c.one_row (row_at ns i) (rest ns (i + 1))
      ∙ ap (λ (b : Bool). cond b (suc (g (rest ns (i + 1)))) (g (rest ns (i + 1)))) e

  pub count_no : (i : ℕ) → i * 4 + 3 < length ns → f (row_at ns i) ≡ false → g (rest ns i) ≡ g (rest ns (i + 1))
  count_no i l e =
      ap g (rest_cons ns i l) ∙ c.one_row (row_at ns i) (rest ns (i + 1))
      ∙ ap (λ (b : Bool). cond b (suc (g (rest ns (i + 1)))) (g (rest ns (i + 1)))) e

  pub count_end : (i : ℕ) → length ns < i * 4 + 4 → g (rest ns i) ≡ 0
  count_end i l = ap g (rest_end ns i l) ∙ c.zero_rows

  -- d rows from i on, all of which pass, or none of which do
  all_count : (d i : ℕ) → i + d ≤ length ns / 4 → ((j : ℕ) → i ≤ j → j < i + d → f (row_at ns j) ≡ true)
      → g (rest ns i) ≡ d + g (rest ns (i + d))
  all_count zero i h y = let e : i + zero ≡ i = omega arith in omega (arith, ap (λ (m : ℕ). g (rest ns m)) e)
  all_count (suc d) i h y =
      let e : i + suc d ≡ i + 1 + d = omega arith in
      let m = all_count d (i + 1) (omega arith) (λ j a b. y j (omega arith) (omega arith)) in
      omega (arith, m, count_yes i (omega arith) (y i (omega arith) (omega arith)), ap (λ (m : ℕ). g (rest ns m)) e)

  none_count : (d i : ℕ) → i + d ≤ length ns / 4 → ((j : ℕ) → i ≤ j → j < i + d → f (row_at ns j) ≡ false)
      → g (rest ns i) ≡ g (rest ns (i + d))
  none_count zero i h y = let e : i + zero ≡ i = omega arith in rw e
  none_count (suc d) i h y =
      let e : i + suc d ≡ i + 1 + d = omega arith in
      let m = none_count d (i + 1) (omega arith) (λ j a b. y j (omega arith) (omega arith)) in
      count_no i (omega arith) (y i (omega arith) (omega arith)) ∙ rw (m, e)

  -- exactly the rows from a to b pass
  pub count_between : (a b : ℕ) → a ≤ b → b ≤ length ns / 4
      → ((j : ℕ) → j < a → f (row_at ns j) ≡ false)
      → ((j : ℕ) → a ≤ j → j < b → f (row_at ns j) ≡ true)
      → ((j : ℕ) → b ≤ j → j < length ns / 4 → f (row_at ns j) ≡ false)
      → g (rows_in ns) ≡ b - a
  count_between a b h k x y z =
      let n = length ns / 4 in
      let e : a + (b - a) ≡ b = omega arith in
      let d : b + (n - b) ≡ n = omega arith in
      let p : g (rest ns b) ≡ 0 =
      none_count (n - b) b (omega arith) (λ j q w. z j q (omega arith))
      ∙ ap (λ (m : ℕ). g (rest ns m)) d ∙ count_end n (omega arith) in
      let q : g (rest ns a) ≡ (b - a) + g (rest ns (a + (b - a))) =
      all_count (b - a) a (omega arith) (λ j w v. y j w (omega arith)) in
      let r : g (rest ns (a + (b - a))) ≡ 0 = ap (λ (m : ℕ). g (rest ns m)) e ∙ p in
      let u : 0 + a ≡ a = omega arith in
      let m : g (rest ns 0) ≡ g (rest ns (0 + a)) = none_count a 0 (omega arith) (λ j w v. x j (omega arith)) in
      omega (arith, m, q, r, ap (λ (v : ℕ). g (rest ns v)) u)
