-- Document 01, module 6: explain.
use Rattle.std.specs.Prelude.{ℕ, suc, ◌+◌, ◌*◌, ◌≡◌, Bool, true, false, not, ◌||◌, cond, List, [], ◌∷◌, length, take, drop, ℤ, eqb}
use Rattle.std.proofs.Math.Option.{none, some}
use Rattle.std.specs.Borrow.{Bor}
use Rattle.paper.specs.Rows.{Row, table, rows_in, find, begin, leaving}
use Rattle.paper.specs.Answers.{Ruling, accept, refuse, then}
use Rattle.paper.specs.Checks.{first, row_slice, plain}

-- Where the walk stopped: the state, the count of matched tokens, and whether a token was left over.
pub record Stop : Type 0 where
  pub state : ℕ
  pub matched : ℕ
  pub left_over : Bool

-- Walk all tokens, k disregarded, to the first without a row.
unfoldable pub stop : List Row → ℕ → ℕ → List ℕ → Stop
stop rs s n [] = record { state = s; matched = n; left_over = false }
stop rs s n (t ∷ ts) = elim (find rs s t) [
  | none ↦ record { state = s; matched = n; left_over = true }
  | some r ↦ stop rs r.to (suc n) ts
]

-- A stretch of the caller's row slice: where it begins and how long it is, in numbers.
pub record Stretch : Type 0 where
  pub start : ℕ
  pub count : ℕ

-- The empty stretch at the slice's end.
unfoldable pub at_end : List ℤ → Stretch
at_end ns = record { start = length ns; count = 0 }

-- The rows that leave the stopped state; the empty stretch at the end if every token matched or it has no rows.
unfoldable pub left_rows : List ℤ → List Row → Stop → Stretch
left_rows ns rs w =
    cond (not w.left_over || eqb (leaving rs w.state) 0) (at_end ns)
    (record { start = begin rs w.state * 4; count = leaving rs w.state * 4 })

-- Explain: table and tokens. Order 1, 2, 3.
unfoldable pub explain : ℤ → ℕ → List ℤ → List ℕ → Ruling Stop
explain p k ns tokens =
    first ((row_slice ns, 1) ∷ plain (table p k ns)) (accept (stop (rows_in ns) 0 0 tokens))

-- The first call answers the count of matched tokens.
unfoldable pub matched_count : ℤ → ℕ → List ℤ → List ℕ → Ruling ℕ
matched_count p k ns tokens = then (explain p k ns tokens) (λ w. accept w.matched)

-- The second call returns a stretch; the empty one at the end if the call is refused.
unfoldable pub stretch_of : List ℤ → Ruling Stop → Stretch
stretch_of ns (accept w) = left_rows ns (rows_in ns) w
stretch_of ns (refuse n d) = at_end ns

-- The second call: the stretch for any numbers.
unfoldable pub stretch : ℤ → ℕ → List ℤ → List ℕ → Stretch
stretch p k ns tokens = stretch_of ns (explain p k ns tokens)

-- A returned part holds the stretch's numbers, and lies where they lie in the caller's slice.
pub record PartOf (slice part : Bor (List ℤ)) (s : Stretch) : Type 0 where
  pub holds : part.now ≡ take s.count (drop s.start slice.now)
  pub block : part.ref_ptr.0 ≡ slice.ref_ptr.0
  pub offset : part.ref_ptr.1 ≡ slice.ref_ptr.1 + s.start * 4
