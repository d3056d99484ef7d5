use Rattle.counts.proofs.Arrays.{fitting}
use Rattle.rows.specs.Places.{given}
use Rattle.shrink_alike.proofs.Begins.{filled}
use Rattle.shrink.proofs.Parts.{classes_named}
use Rattle.shrink.proofs.write.Goals as goal

pub places-states-requires : goal.places-states-requires
places-states-requires c =
    let f = c.args.faces.now in
    let i = f.indexed.0 in
    (classes_named f.mode (given f.prod0) f.rows.numbers.now _ (fitting i.passed i.few) c.requires.0, filled 65535)

pub invariant_of-numbered : goal.invariant_of-numbered
invariant_of-numbered c =
    let f = c.args.faces.now in
    let i = f.indexed.0 in
    record {
      named = classes_named f.mode (given f.prod0) f.rows.numbers.now _ (fitting i.passed i.few) c.requires.0;
      placed = c.places-states.ensures.0;
    }

pub returns : goal.returns
returns c = record {
  class = c.args.class.now;
  classes = c.requires.0;
  wrote = record { rows = c.emit.ensures; states = c.places-states.ensures.1 };
}
