-- `row_checks::row_fits` meets its contract. By the bounds one after another. Assumes nothing.
use Prim.Native.Nat.{ℕ}
use mathlib.Core.Path.{ap, sym, ◌∙◌}
use lib.Dec.{leb}
use Rattle.paper.specs.Rows.{Row}
use Rattle.rows.specs.Places.{uncoded}
use Rattle.rows.proofs.Codes.{code_uncoded}
use Rattle.rows.proofs.Fits.{code_fits, from_out, terminal_out, to_out, production_left}
use Rattle.row_checks.proofs.row_fits.Goals as goal

-- the row that is asked about
abbrev asked : ℕ → ℕ → ℕ → ℕ → Row
asked f t g c = record { from = f; terminal = t; to = g; production = uncoded c }

pub returns-then-from-gt1023 : goal.returns-then-from-gt1023
returns-then-from-gt1023 c =
    let a = c.args in
    from_out (asked a.from a.terminal a.to a.code) c.if-from-gt1023.true

pub returns-then-terminal-gt65535 : goal.returns-then-terminal-gt65535
returns-then-terminal-gt65535 c =
    let a = c.args in
    terminal_out (asked a.from a.terminal a.to a.code) c.if-from-gt1023.false c.if-terminal-gt65535.true

pub returns-then-to-gt1023 : goal.returns-then-to-gt1023
returns-then-to-gt1023 c =
    let a = c.args in
    to_out (asked a.from a.terminal a.to a.code) c.if-from-gt1023.false c.if-terminal-gt65535.false
    c.if-to-gt1023.true

pub returns : goal.returns
returns c =
    let a = c.args in
    ap (λ (n : ℕ). leb n 65536) (sym (code_uncoded a.code)) ∙ code_fits (uncoded a.code)
    ∙ production_left (asked a.from a.terminal a.to a.code) c.if-from-gt1023.false c.if-terminal-gt65535.false
    c.if-to-gt1023.false
