-- Any two results that report's contract allows are identical: the count and the output. Assumes nothing.
use mathlib.Core.Path.{◌≡◌, sym, ap, ◌∙◌}
use mathlib.Core.List.{List, ◌++◌}
use Prim.Native.Nat.{ℕ}
use lib.ListN.{drop}
use Rattle.report.specs.Rulings.{Prints}

pub prints_one : (bytes old new new' : List ℕ) (r s : ℕ) → Prints bytes old new r → Prints bytes old new' s
    → (r ≡ s) × (new ≡ new')
prints_one bytes old new new' r s p q =
    let e : r ≡ s = p.count ∙ sym q.count in
    (e, p.holds ∙ ap (λ (n : ℕ). bytes ++ drop n old) e ∙ sym q.holds)
