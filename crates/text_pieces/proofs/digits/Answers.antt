-- `text_pieces::digits` meets its contract. At the end of the digits, and a digit more. Assumes nothing.
use Rattle.std.proofs.Common.{suc, ◌+◌, ◌≡◌, refl, sym, ◌∙◌, arith, length, drop}
use Rattle.paper.specs.Text.{value, digit_count}
use Rattle.text_pieces.specs.Pieces.{Counts}
use Rattle.text_pieces.proofs.Numbers.{digits_end, digits_next, digits_stop, value_on, value_small}
use Rattle.text_pieces.proofs.digits.Goals as goal
use Rattle.text_pieces.proofs.digits.Goals.{then-not-is_ascii_digit-via-then-not-is_ascii_digit, then-not-is_ascii_digit-via-else-not-is_ascii_digit+then-count-gt-MOST}

pub loop-count-init : goal.loop-count-init
unfolding value
loop-count-init c = (omega arith, refl, omega arith)

pub returns-then-not-is_ascii_digit : goal.returns-then-not-is_ascii_digit
returns-then-not-is_ascii_digit c =
    let bs = c.args.bytes.now in
    let n = c.loop-count.count in
    let ended : digit_count (drop n bs) ≡ 0 → Counts bs n c.loop-count.value = λ (e : digit_count (drop n bs) ≡ 0).
    record { inside = omega arith; made = c.loop-count.invariant.1; least = omega arith; all = λ h. omega arith } in
    elim c.then-not-is_ascii_digit.branch [
      | then-not-is_ascii_digit-via-then-not-is_ascii_digit w ↦ ended (digits_stop bs n (omega arith) (sym c.is_ascii_digit.ensures.value ∙ w.if-not-is_ascii_digit.true))
      | then-not-is_ascii_digit-via-else-not-is_ascii_digit+then-count-gt-MOST w ↦ record {
        inside = omega arith;
        made = c.loop-count.invariant.1;
        least = omega arith;
        all = λ h. absurd (omega (arith, h, w.if-count-gt-MOST.true));
      }
    ]

pub overflow_mul-value : goal.overflow_mul-value
overflow_mul-value c = omega (arith, value_small c.loop-count.count c.args.bytes.now (omega arith) (omega arith))

pub overflow_add-value : goal.overflow_add-value
overflow_add-value c = omega (arith, value_small c.loop-count.count c.args.bytes.now (omega arith) (omega arith))

pub loop-count-preserved : goal.loop-count-preserved
loop-count-preserved c =
    let bs = c.args.bytes.now in
    let n = c.loop-count.count in
    let e = digits_next bs n (omega arith) (sym c.is_ascii_digit.ensures.value ∙ c.if-not-is_ascii_digit.false) in
    let s : n + 1 ≡ suc n = omega arith in (
      rw s (omega arith),
      rw (c.from.ensures, c.loop-count.invariant.1) (value_on n bs (omega arith)),
      omega arith,
    )

pub returns : goal.returns
returns c =
    let bs = c.args.bytes.now in
    let e = digits_end bs c.loop-count.count c.loop-count-test.false in
    let n : c.loop-count.count ≡ length bs = omega arith in
    record {
      inside = omega arith;
      made = rw (← n) c.loop-count.invariant.1;
      least = omega arith;
      all = λ h. omega arith;
    }
