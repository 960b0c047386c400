-- The events of a timeline.
use Rattle.std.specs.Prelude.{◌≡◌, List, Bool, true, false, IsTrue}
use Rattle.std.specs.List.{AllByRecursion}
use Rattle.child_events.specs.declared.event.What.{What}
use Rattle.child_events.specs.declared.event.What.TheVariants as what
use Rattle.child_events.specs.declared.event.HallEvent.{HallEvent}
use Rattle.child_events.specs.declared.event.HallEvent.TheVariants as hall
use Rattle.child_events.specs.declared.child_numbers.ChildNumbers.TheVariants.{To16}
use Rattle.child_events.specs.Log.{fits}

abbrev pub brings_answer : What → Bool
brings_answer (what.Out piece) = false
brings_answer what.Eof = false
brings_answer (what.ReadFail cause) = false
brings_answer (what.Answer a) = true

-- The event is an answer to a request.
abbrev pub is_answer : HallEvent → Bool
is_answer (hall.Child s c m w) = brings_answer w
is_answer (hall.Tick m) = false

-- The event is of script 1, or is a tick.
abbrev pub IsOfFirst : HallEvent → Type 0
IsOfFirst (hall.Child s c m w) = s ≡ 1
IsOfFirst (hall.Tick m) = Unit {0}

-- An event of a timeline. It is of script 1, is within the limits of a log, and is no answer.
pub record IsTold (e : HallEvent) : Type 0 where
  pub first : IsOfFirst e
  pub within : IsTrue (fits To16 e)
  pub other : is_answer e ≡ false

abbrev pub AreTold : List HallEvent → Type 0
AreTold es = AllByRecursion IsTold es
