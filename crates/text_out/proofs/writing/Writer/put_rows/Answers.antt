-- `text_out::writing::Writer::put_rows` meets its contract. A row more, and all rows. Assumes nothing.
use Rattle.std.proofs.Common.{◌≡◌, ◌∙◌, ◌+◌, ◌*◌, ◌<◌, ◌≤◌, [], refl, sym, ap, length, arith, rules, get_or, pos}
use mir.Syntax.{w32}
use mir.Val.{to_z, of_z}
use Rattle.rows.specs.Places.{row, row_at, rest}
use Rattle.rows.proofs.Codes.{row_as}
use Rattle.rows.proofs.Fits.{fits_at}
use Rattle.text_laws.specs.Written.{row_text, rows_text}
use Rattle.text_laws.proofs.Put.{put_nil}
use Rattle.text_out.specs.Added.{Adds}
use Rattle.text_out.proofs.Lined.{rows_none, turn_holds, turn_place}
use Rattle.text_out.proofs.writing.Writer.put_rows.Goals as goal

pub loop-i-init : goal.loop-i-init
loop-i-init c = record { within = omega arith; long = refl; same = refl; place = refl; holds = refl }

pub put_row-requires : goal.put_row-requires
put_row-requires c =
    let ns = c.args.rows.now in
    let f = fits_at ns c.requires.1 c.loop-i.i (omega arith) in
    let e : to_z w32 (of_z w32 c.production_at.result) ≡ c.production_at.result = search rules in (
      omega arith,
      omega (arith, c.from_at.ensures.is, f.from),
      omega (arith, c.terminal_at.ensures.is, f.terminal),
      omega (arith, c.to_at.ensures.is, f.to),
      rw (e ∙ c.production_at.ensures) (omega (arith, f.production)),
    )

pub loop-i-preserved : goal.loop-i-preserved
loop-i-preserved c =
    let p = c.loop-i in
    let ns = c.args.rows.now in
    let h : p.i * 4 + 3 < length ns = omega arith in
    let made : row c.from_at.result c.terminal_at.result c.to_at.result (get_or ns (p.i * 4 + 3) (pos 0)) ≡ row_at ns p.i =
    row_as (row_at ns p.i) _ _ _ _ c.from_at.ensures.is c.terminal_at.ensures.is c.to_at.ensures.is refl in
    let e : to_z w32 (of_z w32 c.production_at.result) ≡ c.production_at.result = search rules in
    let read = rw (e ∙ c.production_at.ensures) at c.put_row.ensures in
    let put : Adds p.self c.put_row.new.self 35 (row_text (row_at ns p.i)) = rw made at read in
    let room : p.self.at + 35 ≤ length p.self.out.now = omega arith in
    record {
      within = omega arith;
      long = put.long ∙ p.invariant.long;
      same = put.same ∙ p.invariant.same;
      place = turn_place ns p.i h put room ∙ p.invariant.place;
      holds = turn_holds ns p.i h put room ∙ p.invariant.holds;
    }

pub returns : goal.returns
returns c =
    let p = c.loop-i in
    let ns = c.args.rows.now in
    let e : rows_text (rest ns p.i) ≡ [] = rows_none ns p.i (omega arith) in
    record {
      place = omega (arith, p.invariant.place, ap length e);
      within = omega arith;
      holds = sym (put_nil p.self.out.now p.self.at) ∙ (rw e at p.invariant.holds);
      long = p.invariant.long;
      same = p.invariant.same;
    }
