-- `text_out::writing::width` meets its contract. Assumes nothing.
use mathlib.Core.Path.{sym}
use native.Mathlib.Omega.{arith}
use Rattle.text_out.proofs.Digits.{width_less, width_2, width_3, width_4, width_5}
use Rattle.text_out.proofs.writing.width.Goals as goal

pub returns-in-0-to-9 : goal.returns-in-0-to-9
returns-in-0-to-9 c = sym (width_less 4 c.args.n (omega arith))

pub returns-in-10-to-99 : goal.returns-in-10-to-99
returns-in-10-to-99 c = sym (width_2 3 c.args.n (omega arith) (omega arith))

pub returns-in-100-to-999 : goal.returns-in-100-to-999
returns-in-100-to-999 c = sym (width_3 2 c.args.n (omega arith) (omega arith))

pub returns-in-1000-to-9999 : goal.returns-in-1000-to-9999
returns-in-1000-to-9999 c = sym (width_4 1 c.args.n (omega arith) (omega arith))

pub returns-in_default : goal.returns-in_default
returns-in_default c = sym (width_5 c.args.n (omega arith) (omega arith))
