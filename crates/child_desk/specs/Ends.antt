-- What comes through rings.
use Rattle.child_events.specs.declared.event.What.{What}
use Rattle.std.specs.Prelude.{ℕ, ◌+◌}
use Rattle.child_events.specs.declared.event.What.TheVariants as what
use Rattle.child_events.specs.declared.event.HallEvent.{HallEvent}
use Rattle.child_events.specs.declared.event.HallEvent.TheVariants as hall

-- An item from a child's reader: no answer.
abbrev pub IsOutput : What → Type 0
IsOutput (what.Out piece) = Unit {0}
IsOutput what.Eof = Unit {0}
IsOutput (what.ReadFail c) = Unit {0}
IsOutput (what.Answer a) = ⊥

-- The event of a child's output. `at` is the script's index.
abbrev pub output_at : ℕ → ℕ → ℕ → What → HallEvent
output_at at child moment w = hall.Child (at + 1) child moment w
