use Rattle.std.proofs.Common.{◌≡◌}
use Rattle.std.specs.Prelude.{IsTrue}
use Rattle.expect_core.specs.Good.{Good}
use Rattle.expect_core.specs.Lanes.{extended}
use Rattle.session.proofs.session.offer_all.Given as goal

abbrev pub invariant-events : goal.invariant-events
invariant-events l =
    (IsTrue l.dialogue.lives → IsTrue l.initial.dialogue.lives)
    × (Good l.initial.dialogue → IsTrue l.dialogue.lives → Good l.dialogue × (extended l.event-iterator.rest.items l.dialogue ≡ extended l.fn.events.items l.initial.dialogue))
