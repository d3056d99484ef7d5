-- `text_in::passes::fill` meets its contract. A row more, and all rows. Assumes nothing.
use Rattle.std.proofs.Common.{◌≡◌, ◌∙◌, ◌+◌, ◌-◌, ◌≤◌, ◌<◌, ℤ, sym, ap, length, arith}
use Rattle.paper.specs.Rows.{accepting, signed}
use Rattle.rows.specs.Places.{code, given}
use Rattle.rows.proofs.Fits.{fit}
use Rattle.rows.proofs.Signed.{kept}
use Rattle.text_laws.specs.Put.{put}
use Rattle.text_laws.proofs.Kept.{production_kept}
use Rattle.text_laws.proofs.Put.{put_nil, put_length, put_four}
use Rattle.text_in.proofs.Parted.{line_numbers}
use Rattle.text_in.proofs.Filled.{row_fit, row_room, next_ready, next_put, all_read}
use Rattle.text_in.proofs.passes.fill.Goals as goal

pub accepting-production-requires : goal.accepting-production-requires
accepting-production-requires c =
    let p = c.loop-row in
    let w = c.in-Some.row in
    let read = sym c.row_from.ensures.value ∙ c.in-Some.is in
    let here : p.place < length c.args.text.now = omega (arith, c.in-Some.ensures.within) in
    let f = fit _ (row_fit c.args.text.now p.place _ here p.invariant.ready w read) in
    let h : code (accepting w.production) ≤ 65536 = f.production in
    rw (kept w.production h) h

pub put_row-requires : goal.put_row-requires
put_row-requires c =
    let p = c.loop-row in
    let w = c.in-Some.row in
    let read = sym c.row_from.ensures.value ∙ c.in-Some.is in
    let here : p.place < length c.args.text.now = omega (arith, c.in-Some.ensures.within) in
    let f = fit _ (row_fit c.args.text.now p.place _ here p.invariant.ready w read) in
    let r = row_room c.args.text.now p.place _ here p.invariant.ready w read in
    (omega arith, omega (arith, f.from), f.terminal, omega (arith, f.to))

pub loop-row-preserved : goal.loop-row-preserved
loop-row-preserved c =
    let p = c.loop-row in
    let t = c.args.text.now in
    let w = c.in-Some.row in
    let ready = p.invariant.ready in
    let read = sym c.row_from.ensures.value ∙ c.in-Some.is in
    let here : p.place < length c.args.text.now = omega (arith, c.in-Some.ensures.within) in
    let f = fit _ (row_fit t p.place _ here ready w read) in
    let r = row_room t p.place _ here ready w read in
    let h : code (accepting w.production) ≤ 65536 = f.production in
    let same : signed (given c.accepting-production.result) ≡ w.production =
    ap signed c.accepting-production.ensures
    ∙ ap (λ (z : ℤ). signed (accepting z)) (kept w.production h)
    ∙ production_kept w.production h in
    let q : c.put_row.new.out ≡ put p.out p.i (line_numbers w) =
    (rw same at c.put_row.ensures) ∙ put_four p.out p.i _ _ _ _ (omega arith) in
    let n : length c.put_row.new.out ≡ length p.out = ap length q ∙ put_length p.out p.i _ (omega arith) in
    let m : length p.out - p.i - 4 ≡ length c.put_row.new.out - (p.i + 4) = omega arith in
    record {
      inside = omega (arith, c.in-Some.ensures.within);
      room = omega arith;
      long = omega arith;
      ready = rw (← m) (next_ready t p.place _ here ready w read);
      holds = next_put t p.place _ here ready w read p.out _ p.i (omega arith) q ∙ p.invariant.holds;
    }

pub returns : goal.returns
returns c =
    let p = c.loop-row in
    let none = sym c.row_from.ensures.value ∙ c.in_default.is in
    let e = all_read c.args.text.now p.place _ p.invariant.ready none in
    sym (put_nil p.out p.i) ∙ (rw e at p.invariant.holds)
