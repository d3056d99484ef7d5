-- Document 01, module 7: text.
use Rattle.std.specs.Prelude.{ℕ, zero, suc, ◌+◌, ◌-◌, ◌*◌, ◌/◌, ◌%◌, Bool, true, false, not, ◌&&◌, ◌||◌, cond, List, [], ◌∷◌, ◌++◌, length, drop, get_or, ℤ, pos, negsuc, eqb, ltb, leb}
use Prim.Native.String.{String}
use Rattle.std.proofs.Math.Option.{Option, none, some}
use Rattle.paper.specs.Words.{bytes}
use Rattle.paper.specs.Rows.{Table, table, natural}
use Rattle.paper.specs.Answers.{Ruling, accept, refuse, then}
use Rattle.paper.specs.Checks.{first, row_slice, little_room, plain}

-- A line's form: words, and numbers between them; -1 only for productions.
pub data Piece : Type 0 where
  word : String → Piece
  count : Piece
  production : Piece

-- `Dfa(prod0, k)`
unfoldable pub head_form : List Piece
head_form = word "Dfa(" ∷ production ∷ word ", " ∷ count ∷ word ")" ∷ []

-- `Trans(from, term, to, prod),`
unfoldable pub row_form : List Piece
row_form =
    word "Trans(" ∷ count ∷ word ", " ∷ count ∷ word ", " ∷ count ∷ word ", " ∷ production ∷ word ")," ∷ []

-- 1 to 5 digits without leading zero.
unfoldable pub digits : ℕ → ℕ → List ℕ
digits zero n = []
digits (suc more) n = cond (ltb n 10) ((48 + n) ∷ []) (digits more (n / 10) ++ ((48 + n % 10) ∷ []))

-- A number in a line; -1 is the only one below 0.
unfoldable pub decimal : ℤ → List ℕ
decimal (pos n) = digits 5 n
decimal (negsuc n) = bytes "-1"

-- ---- text out

-- A line's bytes: its words, and its numbers in their places.
unfoldable pub write : List Piece → List ℤ → List ℕ
write [] ns = []
write (word w ∷ ps) ns = bytes w ++ write ps ns
write (count ∷ ps) [] = []
write (count ∷ ps) (n ∷ ns) = decimal n ++ write ps ns
write (production ∷ ps) [] = []
write (production ∷ ps) (n ∷ ns) = decimal n ++ write ps ns

-- A line for each row.
unfoldable pub row_lines : List ℤ → List ℕ
row_lines [] = []
row_lines (f ∷ []) = []
row_lines (f ∷ t ∷ []) = []
row_lines (f ∷ t ∷ g ∷ []) = []
row_lines (f ∷ t ∷ g ∷ p ∷ ns) = write row_form (f ∷ t ∷ g ∷ p ∷ []) ++ (10 ∷ row_lines ns)

-- The head line, then a line for each row, each with its LF.
unfoldable pub text : ℤ → ℕ → List ℤ → List ℕ
text p k ns = write head_form (p ∷ pos k ∷ []) ++ (10 ∷ row_lines ns)

-- Text out: table, and the length of the output in bytes. Order 1, 2, 3.
unfoldable pub text_out : ℤ → ℕ → List ℤ → ℕ → Ruling (List ℕ)
text_out p k ns room =
    first ((row_slice ns || ltb room 262144, 1) ∷ plain (table p k ns)) (accept (text p k ns))

-- ---- text in

-- A line of a text: its bytes, and whether its LF is there.
pub record Line : Type 0 where
  pub bytes : List ℕ
  pub ended : Bool

-- A byte at the front of the first line; a last line that no LF ends is not ended.
unfoldable pub longer : ℕ → List Line → List Line
longer b [] = record { bytes = b ∷ []; ended = false } ∷ []
longer b (l ∷ ls) = record { bytes = b ∷ l.bytes; ended = l.ended } ∷ ls

-- A text is cut after each LF.
unfoldable pub lines : List ℕ → List Line
lines [] = []
lines (b ∷ bs) = cond (eqb b 10) (record { bytes = []; ended = true } ∷ lines bs) (longer b (lines bs))

-- 0 to 9.
unfoldable pub is_digit : ℕ → Bool
is_digit b = leb 48 b && leb b 57

-- How many digits stand at the front.
unfoldable pub digit_count : List ℕ → ℕ
digit_count [] = 0
digit_count (b ∷ bs) = cond (is_digit b) (suc (digit_count bs)) 0

-- The number of so many digits at the front, after a number that stands before them.
unfoldable pub value : ℕ → ℕ → List ℕ → ℕ
value zero n bs = n
value (suc c) n [] = n
value (suc c) n (b ∷ bs) = value c (n * 10 + (b - 48)) bs

-- 1 to 5 digits, the first no 0 unless it is the only one.
unfoldable pub in_form : List ℕ → Bool
in_form bs =
    (leb 1 (digit_count bs) && leb (digit_count bs) 5) && (eqb (digit_count bs) 1 || not (eqb (get_or bs 0 0) 48))

-- What follows a word at the front.
unfoldable pub past : List ℕ → List ℕ → Option (List ℕ)
past [] bs = some bs
past (w ∷ ws) [] = none
past (w ∷ ws) (b ∷ bs) = cond (eqb w b) (past ws bs) none

-- A number put before the numbers that follow it.
unfoldable pub and_then : ℤ → Option (List ℤ) → Option (List ℤ)
and_then n none = none
and_then n (some ns) = some (n ∷ ns)

-- The numbers of a line in form; none if it is not.
unfoldable pub read : List Piece → List ℕ → Option (List ℤ)
read [] [] = some []
read [] (b ∷ bs) = none
read (word w ∷ ps) bs = elim (past (bytes w) bs) [ none ↦ none | some rest ↦ read ps rest ]
read (count ∷ ps) bs =
    cond (in_form bs) (and_then (pos (value (digit_count bs) 0 bs)) (read ps (drop (digit_count bs) bs))) none
read (production ∷ ps) bs = elim (past (bytes "-1") bs) [
  | some rest ↦ and_then (negsuc 0) (read ps rest)
  | none ↦ cond (in_form bs) (and_then (pos (value (digit_count bs) 0 bs)) (read ps (drop (digit_count bs) bs))) none
]

-- The numbers of a line, or 13 TEXT with its offset: a missing LF makes the line bad.
unfoldable pub read_line : List Piece → ℕ → Line → Ruling (List ℤ)
read_line form at l = elim (cond l.ended (read form l.bytes) none) [
  | some ns ↦ accept ns
  | none ↦ refuse 13 (at ∷ [])
]

-- A row on each line, from an offset on.
unfoldable pub read_rows : ℕ → List Line → Ruling (List ℤ)
read_rows at [] = accept []
read_rows at (l ∷ ls) =
    then (read_line row_form at l) (λ r.
    then (read_rows (at + length l.bytes + 1) ls) (λ ns. accept (r ++ ns)))

-- The head line first; empty text is bad at 0.
unfoldable pub read_lines : List Line → Ruling Table
read_lines [] = refuse 13 (0 ∷ [])
read_lines (l ∷ ls) =
    then (read_line head_form 0 l) (λ h.
    then (read_rows (length l.bytes + 1) ls) (λ ns.
    accept (table (get_or h 0 (pos 0)) (natural (get_or h 1 (pos 0))) ns)))

-- Text in: the text, and the length of the output. 1 for the output, 13, 1 for over 4,096 rows, 2, 3.
unfoldable pub text_in : List ℕ → ℕ → Ruling Table
text_in bs room =
    first ((little_room room, 1) ∷ []) (
    then (read_lines (lines bs)) (λ t.
    first ((ltb 4096 (length t.rows), 1) ∷ plain t) (accept t)))
