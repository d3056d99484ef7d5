use mathlib.Core.Path.{◌≡◌}
use mathlib.Core.Bool.{true}
use mathlib.Core.List.{List}
use Prim.Native.Nat.{ℕ, ◌+◌, ◌*◌, ◌/◌, ◌<◌, ◌≤◌}
use native.Mathlib.Omega.{arith}
use lib.ListN.{length, get_or}
use lib.IntN.{ℤ, pos}
use Rattle.paper.specs.Rows.{natural, rows_in}
use Rattle.paper.specs.Checks.{every, row_fits}
use Rattle.rows.proofs.Signed.{plain_cast, plain_read}
use Rattle.rows.proofs.Fits.{fits_at}
use Rattle.rows.proofs.numbers.key_at.Goals as goal

abbrev first : List ℤ → ℕ → ℤ
first ns i = get_or ns (i * 4) (pos 0)

abbrev second : List ℤ → ℕ → ℤ
second ns i = get_or ns (i * 4 + 1) (pos 0)

module _ (ns : List ℤ) (e : every row_fits (rows_in ns) ≡ true) (i : ℕ) (l : i < length ns / 4) where
  from : natural (first ns i) ≤ 65535
  from = omega (arith, (fits_at ns e i l).from)

  terminal : natural (second ns i) ≤ 65535
  terminal = (fits_at ns e i l).terminal

pub overflow_cast-result : goal.overflow_cast-result
overflow_cast-result c = plain_cast (first c.args.rows.now c.args.i) (from c.args.rows.now c.requires.0 c.args.i c.requires.1) c.result-1.given

pub overflow_mul-result-2 : goal.overflow_mul-result-2
overflow_mul-result-2 c =
    let ns = c.args.rows.now in
    let i = c.args.i in
    let b = from ns c.requires.0 i c.requires.1 in
    omega (arith, b, plain_read (first ns i) b c.result-1.given)

pub overflow_cast-result-2 : goal.overflow_cast-result-2
overflow_cast-result-2 c = plain_cast (second c.args.rows.now c.args.i) (terminal c.args.rows.now c.requires.0 c.args.i c.requires.1) c.result-2-1.given

pub overflow_add-result-2 : goal.overflow_add-result-2
overflow_add-result-2 c =
    let ns = c.args.rows.now in
    let i = c.args.i in
    let b = from ns c.requires.0 i c.requires.1 in
    let d = terminal ns c.requires.0 i c.requires.1 in
    omega (arith, b, d, plain_read (first ns i) b c.result-1.given, plain_read (second ns i) d c.result-2-1.given)

pub returns : goal.returns
returns c =
    let ns = c.args.rows.now in
    let i = c.args.i in
    let b = from ns c.requires.0 i c.requires.1 in
    let d = terminal ns c.requires.0 i c.requires.1 in
    omega (arith, plain_read (first ns i) b c.result-1.given, plain_read (second ns i) d c.result-2-1.given)
