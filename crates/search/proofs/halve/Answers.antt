use native.Mathlib.Omega.{arith}
use Rattle.search.proofs.Bracket.{raised, sunk, met}
use Rattle.search.proofs.halve.Goals as goal

pub loop-low-init : goal.loop-low-init
loop-low-init c = rw c.count-high.ensures c.requires

pub key-requires : goal.key-requires
key-requires c = omega (arith, c.loop-low.invariant.within)

pub loop-low-preserved-then-key-x : goal.loop-low-preserved-then-key-x
loop-low-preserved-then-key-x c = raised c.args.rows.passed c.loop-low.invariant _ (omega arith) (omega (arith, c.key.ensures))

pub loop-low-preserved : goal.loop-low-preserved
loop-low-preserved c = sunk c.args.rows.passed c.loop-low.invariant _ (omega arith) (omega arith) (omega (arith, c.key.ensures))

pub returns : goal.returns
returns c = met c.loop-low.invariant c.loop-low-test.false
