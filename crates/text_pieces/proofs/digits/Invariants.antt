-- `text_pieces::digits` meets its contract. The loop's invariant: the digits passed and those from there on are all of
-- them, and the number so far is that of the digits passed. Assumes nothing.
use Prim.Native.Nat.{◌+◌, ◌≤◌}
use mathlib.Core.Path.{◌≡◌}
use lib.ListN.{drop}
use Rattle.paper.specs.Text.{digit_count, value}
use Rattle.text_pieces.proofs.digits.Given as goal

abbrev pub invariant-loop-count : goal.invariant-loop-count
invariant-loop-count l =
    (digit_count l.bytes ≡ l.count + digit_count (drop l.count l.bytes))
    × (l.value ≡ value l.count 0 l.bytes)
    × (l.count ≤ 6)
