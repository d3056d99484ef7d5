-- A text read line by line, each at a place.
use Rattle.std.specs.Prelude.{ℕ, ◌+◌, cond, Option, Some, None, List, [], ◌∷◌, length, drop, eqb, ltb}
use Rattle.paper.specs.Words.{bytes}
use Rattle.text_lines.specs.declared.reading.RowLine.{RowLine}
use Rattle.text_lines.specs.declared.reading.HeadLine.{HeadLine}
use Rattle.text_pieces.specs.Pieces.{field_at, last_at, ends_at}

-- What follows a number that was read.
abbrev pub on_is : {A B : Type 0} → Option (A × ℕ) → (A → ℕ → Option B) → Option B
on_is (Some (v, n)) k = k v n
on_is None k = None

-- A line's numbers if it is a row's, with the place of the line after it.
unfoldable pub row_of : List ℕ → ℕ → Option RowLine
row_of l next =
    on_is (field_at l 0 (bytes "Trans(")) (λ f a.
    on_is (field_at l a (bytes ", ")) (λ t b.
    on_is (field_at l b (bytes ", ")) (λ g c.
    on_is (last_at l c (bytes ", ")) (λ p d.
    cond (ends_at l d (bytes "),"))
    (Some (record { from = f; terminal = t; to = g; production = p; next = next })) None))))

-- A line's numbers if it is a head line.
unfoldable pub head_of : List ℕ → ℕ → Option HeadLine
head_of l next =
    on_is (last_at l 0 (bytes "Dfa(")) (λ p a.
    on_is (field_at l a (bytes ", ")) (λ k b.
    cond (ends_at l b (bytes ")")) (Some (record { prod0 = p; k = k; next = next })) None))

-- The bytes before the first LF.
unfoldable pub front : List ℕ → List ℕ
front [] = []
front (b ∷ bs) = cond (eqb b 10) [] (b ∷ front bs)

-- Where the line from a place on ends: at its LF, or with the text.
unfoldable pub line_end : List ℕ → ℕ → ℕ
line_end t at = at + length (front (drop at t))

-- The place of the LF that ends the line from a place on.
unfoldable pub line_from : List ℕ → ℕ → Option ℕ
line_from t at = cond (ltb (line_end t at) (length t)) (Some (line_end t at)) None

-- The row whose line begins at a place.
unfoldable pub row_from : List ℕ → ℕ → Option RowLine
row_from t at = cond (ltb (line_end t at) (length t)) (row_of (front (drop at t)) (line_end t at + 1)) None

-- The head whose line begins at a place.
unfoldable pub head_from : List ℕ → ℕ → Option HeadLine
head_from t at = cond (ltb (line_end t at) (length t)) (head_of (front (drop at t)) (line_end t at + 1)) None
