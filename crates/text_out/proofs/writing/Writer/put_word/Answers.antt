-- `text_out::writing::Writer::put_word` meets its contract. A byte more, and all bytes. Assumes nothing.
use Rattle.std.proofs.Common.{◌∙◌, ◌≡◌, ◌+◌, ℕ, List, add-one, length, get_or, refl, ap, arith}
use lib.ListN.{set, length-set}
use lib.Seq.{paste-zero, paste-suc}
use Rattle.text_laws.proofs.Put.{put_pasted}
use Rattle.text_out.proofs.writing.Writer.put_word.Goals as goal

pub loop-i-init : goal.loop-i-init
loop-i-init c =
    let w = c.args.self.now in
    record { place = refl; same = refl; long = refl; holds = paste-zero w.out.now w.at c.args.word.now }

pub loop-i-preserved : goal.loop-i-preserved
loop-i-preserved c =
    let w = c.args.self.now in
    let p = c.loop-i in
    let word = c.args.word.now in
    record {
      place = p.invariant.place;
      same = p.invariant.same;
      long = simp length-set p.invariant.long;
      holds = rw p.invariant.place (ap (λ (l : List ℕ). set l (w.at + p.i) (get_or word p.i 0)) p.invariant.holds
          ∙ paste-suc w.out.now w.at word p.i 0 (omega arith) (omega arith)
          ∙ rw (← add-one p.i));
    }

pub returns : goal.returns
returns c =
    let w = c.args.self.now in
    let p = c.loop-i in
    let e : p.i ≡ length c.args.word.now = omega arith in
    record {
      place = omega arith;
      within = omega arith;
      holds = p.invariant.holds ∙ put_pasted w.out.now w.at c.args.word.now p.i e;
      long = p.invariant.long;
      same = p.invariant.same;
    }
