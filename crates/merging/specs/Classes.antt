-- Classes of states: what merging gives, as one node for each class.
use Rattle.std.specs.Prelude.{◌≡◌, cond, true, ℕ, ◌<◌, ◌≤◌, eqb}
use mathlib.Core.List.{List, [], ◌∷◌, Memᴰ}
use Rattle.paper.specs.Shrink.{Node, redirect, lead, equal}

-- States rise along the list.
pub data Rising : List Node → Type 0 where
  rise_nil : Rising []
  rise_cons : {n : Node} {ns : List Node} →
      ((m : Node) → Memᴰ m ns → n.state < m.state) → Rising ns → Rising (n ∷ ns)

-- One node for each class: each state that is its own class, its rows led into classes.
unfoldable pub quotient : (ℕ → ℕ) → List Node → List Node
quotient c [] = []
quotient c (n ∷ ns) = cond (eqb (c n.state) n.state) (lead c n ∷ quotient c ns) (quotient c ns)

-- c gives each state the lowest of its class, and a class has one production and, by classes, the same rows.
pub record Class (ns : List Node) (c : ℕ → ℕ) : Type 0 where
  pub low : (n : Node) → Memᴰ n ns → c n.state ≤ n.state
  pub idem : (n : Node) → Memᴰ n ns → c (c n.state) ≡ c n.state
  pub home : (n : Node) → Memᴰ n ns → (m : Node) × Memᴰ m ns × (m.state ≡ c n.state)
  pub like : (n m : Node) → Memᴰ n ns → Memᴰ m ns → c n.state ≡ c m.state →
      (n.production ≡ m.production) × (redirect c n.rows ≡ redirect c m.rows)

-- No two are equal.
abbrev pub Reduced : List Node → Type 0
Reduced ms = (x y : Node) → Memᴰ x ms → Memᴰ y ms → equal x y ≡ true → x ≡ y

-- Rows lead to states of the list, and some rank falls along them.
pub record Grounded (ns : List Node) (rank : ℕ → ℕ) : Type 0 where
  pub rises : Rising ns
  pub falls : (n : Node) → Memᴰ n ns → (o : ℕ × ℕ) → Memᴰ o n.rows →
      rank o.1 < rank n.state
  pub closed : (n : Node) → Memᴰ n ns → (o : ℕ × ℕ) → Memᴰ o n.rows →
      (m : Node) × Memᴰ m ns × (m.state ≡ o.1)

-- Rows lead to higher states of the list, as in a ruled table.
pub record Climbing (ns : List Node) : Type 0 where
  pub rises : Rising ns
  pub climbs : (n : Node) → Memᴰ n ns → (o : ℕ × ℕ) → Memᴰ o n.rows → n.state < o.1
  pub closed : (n : Node) → Memᴰ n ns → (o : ℕ × ℕ) → Memᴰ o n.rows →
      (m : Node) × Memᴰ m ns × (m.state ≡ o.1)
