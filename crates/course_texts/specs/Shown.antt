-- What is shown of bytes, requests and events. Names stand in place of secrets. Without secrets all is shown as it is.
use Rattle.std.specs.Prelude.{ℕ, List, [], ◌∷◌, map, Bool}
use Rattle.secret_words.specs.declared.secrets.Secret.{Secret}
use Rattle.secret_words.specs.Masking.{masked}
use Rattle.child_events.specs.declared.event.What.{What}
use Rattle.child_events.specs.declared.event.What.TheVariants as what
use Rattle.child_events.specs.declared.event.HallEvent.{HallEvent}
use Rattle.child_events.specs.declared.event.HallEvent.TheVariants as hall
use Rattle.expect_core.specs.declared.request.Request.{Request}
use Rattle.report_texts.specs.Masked.{masked_request}
use Rattle.course_texts.specs.Show.{told_line}

abbrev pub shown_bytes : List Secret → List ℕ → List ℕ
shown_bytes [] bytes = bytes
shown_bytes (s ∷ ss) bytes = masked (s ∷ ss) bytes

abbrev pub shown_requests : List Secret → List Request → List Request
shown_requests [] rs = rs
shown_requests (s ∷ ss) rs = map (masked_request (s ∷ ss)) rs

abbrev pub shown_what : List Secret → What → What
shown_what ss (what.Out piece) = what.Out (masked ss piece)
shown_what ss what.Eof = what.Eof
shown_what ss (what.ReadFail c) = what.ReadFail c
shown_what ss (what.Answer a) = what.Answer a

abbrev pub shown_event : List Secret → HallEvent → HallEvent
shown_event ss (hall.Child s c m w) = hall.Child s c m (shown_what ss w)
shown_event ss (hall.Tick m) = hall.Tick m

-- The line of an event. `closed` says whether exprun had closed the child's output itself.
abbrev pub event_line : List Secret → Bool → HallEvent → List ℕ
event_line [] closed e = told_line closed e
event_line (s ∷ ss) closed e = told_line closed (shown_event (s ∷ ss) e)
