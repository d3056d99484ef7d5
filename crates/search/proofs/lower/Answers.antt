use native.Mathlib.Omega.{arith}
use Rattle.search.proofs.Bracket.{opened, scanned}
use Rattle.search.proofs.lower.Goals as goal

pub returns-then-n-le32 : goal.returns-then-n-le32
returns-then-n-le32 c = scanned c.args.rows.passed _ c.args.x _ c.scan.ensures (omega arith) (λ q. c.count-n.ensures)

pub halve-requires : goal.halve-requires
halve-requires c = opened c.args.rows.passed c.args.x 31 (omega arith) (omega (arith, c.key.ensures))

pub returns : goal.returns
returns c =
    scanned c.args.rows.passed 32 c.args.x _ c.scan-2.ensures (omega arith)
    (λ q. absurd (omega (arith, c.scan-2.ensures.below.row 31 (omega arith), c.key.ensures)))
