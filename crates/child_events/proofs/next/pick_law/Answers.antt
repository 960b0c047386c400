use Rattle.child_events.proofs.Nexts.{stays_next, comes_later}
use Rattle.child_events.proofs.next.pick_law.Goals as goal

pub returns : goal.returns
returns c = record { stays = stays_next; later = comes_later }
