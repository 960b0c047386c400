-- The timeline that a text describes, or the error of its first bad line. Lines count from 1.
use Rattle.std.specs.Prelude.{ℕ, zero, suc, ◌+◌, ◌-◌, ◌/◌, nat_le, List, [], ◌∷◌, ◌++◌, map, take, drop, length, if◌then◌else◌, is_some, Result, Ok, Err}
use Rattle.child_events.specs.declared.event.What.{What}
use Rattle.child_events.specs.declared.event.What.TheVariants as what
use Rattle.child_events.specs.declared.event.HallEvent.{HallEvent}
use Rattle.child_events.specs.declared.event.HallEvent.TheVariants as hall
use Rattle.child_events.specs.Reading.{parts}
use Rattle.child_timeline.specs.declared.exits.Exit.{Exit}
use Rattle.child_timeline.specs.declared.fault.TimelineFault.{TimelineFault}
use Rattle.child_timeline.specs.declared.fault.TimelineFault.TheVariants as fault
use Rattle.child_timeline.specs.declared.line.When.{When}
use Rattle.child_timeline.specs.declared.line.When.TheVariants.{At, After}
use Rattle.child_timeline.specs.declared.line.TimelineLine.{TimelineLine}
use Rattle.child_timeline.specs.declared.line.TimelineLine.TheVariants as line
use Rattle.child_timeline.specs.declared.timeline.Timeline.{Timeline}
use Rattle.tcl_words.specs.Bytes as ascii
use Rattle.child_timeline.specs.Exits.{exit_told}
use Rattle.child_timeline.specs.Line.{◌>>=◌, line_of}

-- The moment is at most 9,000,000,000,000,000 milliseconds.
abbrev pub within : ℕ → ℕ → Result ℕ TimelineFault
within n m = if nat_le m 9000000000000000 then Ok m else Err (fault.Moment n)

-- The moment of a line that follows one of moment `last`. Moments never fall.
abbrev pub moment_after : ℕ → ℕ → When → Result ℕ TimelineFault
moment_after n last (At m) = within n m >>= λ k. if nat_le last k then Ok k else Err (fault.Back n)
moment_after n last (After m) = within n (last + m)

-- The bytes in a number of pieces of 4,096 bytes, and a last piece with the rest.
abbrev pub pieces_and_rest : ℕ → List ℕ → List (List ℕ)
pieces_and_rest zero bytes = bytes ∷ []
pieces_and_rest (suc k) bytes = take 4096 bytes ∷ pieces_and_rest k (drop 4096 bytes)

-- The bytes in pieces of 4,096 bytes, the last one shorter or equal. No bytes make one piece.
abbrev pub pieces : List ℕ → List (List ℕ)
pieces bytes = pieces_and_rest ((length bytes - 1) / 4096) bytes

-- The event that child c of script 1 wrote this piece.
abbrev pub written : ℕ → ℕ → List ℕ → HallEvent
written c m piece = hall.Child 1 c m (what.Out piece)

-- The events of a child's content. A text is cut into pieces.
abbrev pub events_of : ℕ → ℕ → What → List HallEvent
events_of c m (what.Out text) = map (written c m) (pieces text)
events_of c m what.Eof = hall.Child 1 c m what.Eof ∷ []
events_of c m (what.ReadFail cause) = hall.Child 1 c m (what.ReadFail cause) ∷ []
events_of c m (what.Answer a) = []

-- Appends events. The last moment is m.
abbrev pub with_events : Timeline → ℕ → List HallEvent → Timeline
with_events t m es = record t { events = t.events ++ es; moment = m }

abbrev pub with_exit : ℕ → Timeline → Exit → Result Timeline TimelineFault
with_exit n t e = if is_some (exit_told e.child t.exits) then Err (fault.Again n) else Ok (record t { exits = t.exits ++ e ∷ [] })

-- The timeline after line n.
abbrev pub with_line : ℕ → Timeline → TimelineLine → Result Timeline TimelineFault
with_line n t line.Nothing = Ok t
with_line n t (line.Tick at) = moment_after n t.moment at >>= λ m. Ok (with_events t m (hall.Tick m ∷ []))
with_line n t (line.Child at c w) = moment_after n t.moment at >>= λ m. Ok (with_events t m (events_of c m w))
with_line n t (line.Exit e) = with_exit n t e

-- The timeline after the bytes of line n.
abbrev pub with_bytes : ℕ → Timeline → List ℕ → Result Timeline TimelineFault
with_bytes n t bytes = line_of n bytes >>= with_line n t

-- The timeline after the lines from line n on.
abbrev pub with_lines : ℕ → Timeline → List (List ℕ) → Result Timeline TimelineFault
with_lines n t [] = Ok t
with_lines n t (w ∷ ws) = with_bytes n t w >>= λ u. with_lines (n + 1) u ws

-- The empty timeline.
abbrev pub silence : Timeline
silence = record { events = []; exits = []; moment = 0 }

-- The timeline of a text.
abbrev pub timeline_of : List ℕ → Result Timeline TimelineFault
timeline_of text = with_lines 1 silence (parts ascii.newline text)
