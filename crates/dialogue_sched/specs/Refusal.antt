-- The events that a hall refuses.
use Rattle.std.specs.Prelude.{ℕ, nat_lt, nat_le, List, [], ◌∷◌, ◌≡◌, length, Bool, ◌&&◌, if◌then◌else◌, Option, Some, None, Result, ◌+◌}
use Rattle.child_events.specs.declared.event.What.{What}
use Rattle.child_events.specs.declared.event.What.TheVariants as what
use Rattle.child_events.specs.declared.event.HallEvent.{HallEvent}
use Rattle.child_events.specs.declared.event.HallEvent.TheVariants as hall
use Rattle.child_events.specs.declared.faults.LogFault.{LogFault}
use Rattle.child_events.specs.Judging.{front_of}
use Rattle.dialogue_sched.specs.declared.refusal.HallRefusal.{HallRefusal}
use Rattle.dialogue_sched.specs.declared.refusal.HallRefusal.TheVariants.{NoSuchScript, NoSuchChild, MomentTooLarge, PieceTooLong}

-- The length of a piece of output, or 0.
abbrev pub piece_len : What → ℕ
piece_len (what.Out piece) = length piece
piece_len what.Eof = 0
piece_len (what.ReadFail c) = 0
piece_len (what.Answer a) = 0

-- A number from 1 to `last`.
abbrev pub is_number : ℕ → ℕ → Bool
is_number n last = nat_lt 0 n && nat_le n last

-- The first reason why a hall with this number of scripts refuses an event.
abbrev pub refusal_of : ℕ → HallEvent → Option HallRefusal
refusal_of scripts (hall.Child s c m w) =
    if is_number s scripts
    then (if is_number c 16
    then (if nat_le m 9000000000000000
    then (if nat_le (piece_len w) 4096 then None else Some PieceTooLong)
    else Some MomentTooLarge)
    else Some NoSuchChild)
    else Some NoSuchScript
refusal_of scripts (hall.Tick m) = if nat_le m 9000000000000000 then None else Some MomentTooLarge

abbrev pub refused_or : ℕ → Option HallRefusal → Option (ℕ × HallRefusal) → Option (ℕ × HallRefusal)
refused_or at None others = others
refused_or at (Some r) others = Some (at, r)

-- The first refused event. `at` is the index of the first event.
abbrev pub first_refusal : ℕ → ℕ → List HallEvent → Option (ℕ × HallRefusal)
first_refusal scripts at [] = None
first_refusal scripts at (e ∷ es) = refused_or at (refusal_of scripts e) (first_refusal scripts (at + 1) es)

-- A hall with this number of scripts refuses none of the events of a log before those that are left.
pub record IsAcceptedTo (scripts : ℕ) (all left : Result (List HallEvent) LogFault) : Type 0 where
  pub front : List HallEvent
  pub same : all ≡ front_of front left
  pub accepted : first_refusal scripts 0 front ≡ None
