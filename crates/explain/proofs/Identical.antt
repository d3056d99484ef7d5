-- Any two places that explain's contract allows are identical. Assumes nothing.
use mathlib.Core.Path.{◌≡◌, sym, ◌∙◌}
use mathlib.Core.List.{List}
use lib.IntN.{ℤ}
use Rattle.paper.specs.Explain.{Stretch}
use Rattle.explain.specs.declared.Part.{Part}
use Rattle.explain.specs.Stopped.{Lies}

pub lies_one : (ns : List ℤ) (s : Stretch) (a b : Part) → Lies ns s a → Lies ns s b → a ≡ b
lies_one ns s a b p q =
    λ i. record { start = (p.starts ∙ sym q.starts) i; count = (p.counts ∙ sym q.counts) i }
