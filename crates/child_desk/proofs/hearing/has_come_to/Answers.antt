use Rattle.std.proofs.Common.{refl}
use Rattle.child_desk.proofs.Hears.{hears_at_none, hears_silent, hears_then, hears_of}
use Rattle.child_desk.proofs.hearing.has_come_to.Goals as goal

pub returns-then-has_answer-clause-heard : goal.returns-then-has_answer-clause-heard
returns-then-has_answer-clause-heard g c = λ script es. hears_silent script c.args.ends.now.readers c.has_answer.new.self.readers es es c.has_answer.ensures.readers (λ s k. refl)

pub loop-index-init : goal.loop-index-init
loop-index-init g c = record {
  heard = λ script es. hears_silent script c.args.ends.now.readers c.has_answer.new.self.readers es es c.has_answer.ensures.readers (λ s k. refl);
  ring = c.has_answer.ensures.ring;
  taken = c.has_answer.ensures.taken;
  asked = c.has_answer.ensures.asked;
}

pub returns-then-not-is_held_back-clause-heard : goal.returns-then-not-is_held_back-clause-heard
returns-then-not-is_held_back-clause-heard g c = λ script es.
    let now = c.loop-index in
    let new = c.seems_empty.new.self in
    hears_then script c.args.ends.now.readers now.ends.readers new es es es (now.invariant.heard script es)
    (hears_of script now.index now.ends.readers new es es (hears_at_none script now.index now.ends.readers new es es c.seems_empty.ensures refl))

pub loop-index-preserved : goal.loop-index-preserved
loop-index-preserved g c =
    let now = c.loop-index in
    let new = c.seems_empty.new.self in
    record {
      heard = λ script es.
          hears_then script c.args.ends.now.readers now.ends.readers new es es es (now.invariant.heard script es)
          (hears_of script now.index now.ends.readers new es es (hears_at_none script now.index now.ends.readers new es es c.seems_empty.ensures refl));
      ring = now.invariant.ring;
      taken = now.invariant.taken;
      asked = now.invariant.asked;
    }
