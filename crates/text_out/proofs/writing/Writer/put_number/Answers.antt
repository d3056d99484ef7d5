-- `text_out::writing::Writer::put_number` meets its contract. A digit more, and all digits. Assumes nothing.
use Rattle.std.proofs.Common.{◌∙◌, ◌≡◌, ◌+◌, ◌≤◌, sym, length, refl, arith}
use lib.ListN.{length-set}
use Rattle.paper.specs.Text.{digits}
use Rattle.text_laws.specs.Put.{put}
use Rattle.text_laws.proofs.Put.{put_nil}
use Rattle.text_out.proofs.Digits.{pad, digits_pad, digit_turn, width_most}
use Rattle.text_out.proofs.writing.Writer.put_number.Goals as goal

pub loop-i-init : goal.loop-i-init
loop-i-init c =
    let n = c.args.n in
    let e : digits 5 n ≡ pad c.width-count.result n = digits_pad 5 n ∙ rw (← c.width-count.ensures) in
    record { few = omega (arith, width_most 5 n); place = refl; same = refl; long = refl; holds = rw e }

pub loop-i-preserved : goal.loop-i-preserved
loop-i-preserved c =
    let p = c.loop-i in
    let h : p.self.at + p.i ≤ length p.self.out.now = omega arith in
    record {
      few = p.invariant.few;
      place = p.invariant.place;
      same = p.invariant.same;
      long = simp length-set p.invariant.long;
      holds = digit_turn p.self.out.now p.self.at p.i p.left c.loop-i-test.true h ∙ p.invariant.holds;
    }

pub returns : goal.returns
returns c =
    let p = c.loop-i in
    let w = c.args.self.now in
    let e : p.i ≡ 0 = omega arith in
    let h : put p.self.out.now p.self.at (pad 0 p.left) ≡ put w.out.now w.at (digits 5 c.args.n) = rw e at p.invariant.holds in
    record {
      place = omega (arith, c.width-count.ensures);
      within = omega arith;
      long = p.invariant.long;
      same = p.invariant.same;
      holds = sym (put_nil p.self.out.now p.self.at) ∙ h;
    }
