use Rattle.std.proofs.Common.{◌≡◌, ℕ, List}
use Rattle.child_events.specs.declared.event.HallEvent.{HallEvent}
use Rattle.feed_rings.specs.Ends.{taken_items, SameOut}
use Rattle.child_desk.specs.Told.{asked_of_hand}
use Rattle.child_desk.specs.Heard.{Hears}
use Rattle.child_desk.proofs.hearing.has_come_to.Given as goal

abbrev pub invariant-loop-index : goal.invariant-loop-index
invariant-loop-index g l = record {
  heard : (script : ℕ) (es : List HallEvent) → Hears script l.fn.ends.readers es l.ends.readers es;
  ring : SameOut l.fn.ends.answers l.ends.answers;
  asked : asked_of_hand l.ends ≡ asked_of_hand l.fn.ends;
  taken : taken_items l.ends.answers ≡ taken_items l.fn.ends.answers;
}
