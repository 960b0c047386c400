use Rattle.std.proofs.Common.{sym, ap, length, ◌∙◌}
use Rattle.child_events.specs.Reading.{parts}
use Rattle.child_events.proofs.Judged.{events_len}
use Rattle.child_events.proofs.log_reader.LogReader.len.Goals as goal

pub returns : goal.returns
returns c = sym (ap length (sym c.self.view_is) ∙ events_len c.self.inside.numbers c.self.inside.number c.self.inside.left (parts 10 c.self.inside.rest.now) c.self.invariant.events)
