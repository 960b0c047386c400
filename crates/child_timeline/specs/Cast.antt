-- Reads a cast of asciinema, of version 2 or 3. A cast is a header line, followed by one line per event with its time,
-- code and text.
use Rattle.std.specs.Prelude.{ℕ, ◌+◌, ◌/◌, nat_le, List, [], ◌∷◌, codes, Bool, true, false, ◌==◌, if◌then◌else◌, Option, Some, None, option_map, option_and_then, Result, Ok, Err}
use Rattle.std.specs.Str.{bytes_eq, is_utf8}
use Rattle.json.specs.Json.{Json, document}
use Rattle.json.specs.Find.{get, at as item_at, as_number, as_str}
use Rattle.child_events.specs.declared.event.What.TheVariants as what
use Rattle.child_events.specs.Reading.{parts}
use Rattle.tcl_words.specs.Bytes as ascii
use Rattle.child_timeline.specs.declared.fault.TimelineFault.{TimelineFault}
use Rattle.child_timeline.specs.declared.fault.TimelineFault.TheVariants as fault
use Rattle.child_timeline.specs.declared.cast.Reel.{Reel}
use Rattle.child_timeline.specs.declared.line.When.TheVariants.{At, After}
use Rattle.child_timeline.specs.declared.line.TimelineLine.{TimelineLine}
use Rattle.child_timeline.specs.declared.line.TimelineLine.TheVariants as line
use Rattle.child_timeline.specs.declared.timeline.Timeline.{Timeline}
use Rattle.child_timeline.specs.Line.{◌>>=◌, or_fault, status_of, says_nothing}
use Rattle.child_timeline.specs.Timeline.{with_line, silence}
use Rattle.child_timeline.specs.Seconds.{micros_of}

-- The JSON value that the bytes encode, or `None`.
abbrev pub value_of : List ℕ → Option Json
value_of bytes = if is_utf8 bytes then document bytes else None

-- How a version gives the times of events. True: since the previous event (version 3). False: since the start (version
-- 2).
abbrev pub counts_on : List ℕ → Option Bool
counts_on version =
    if bytes_eq version (codes "3") then Some true
    else if bytes_eq version (codes "2") then Some false
    else None

-- The version that a header names.
abbrev pub version_of : Json → Option (List ℕ)
version_of header = option_and_then as_number (get (codes "version") header)

-- How the times count, by the bytes of the header.
abbrev pub header_counts_on : List ℕ → Option Bool
header_counts_on bytes = option_and_then (λ header. option_and_then counts_on (version_of header)) (value_of bytes)

-- The time, the code and the text of an event.
abbrev pub Scene : Type 0
Scene = List ℕ × (List ℕ × List ℕ)

abbrev pub scene_in : Json → Option Scene
scene_in j =
    option_and_then (λ time.
    option_and_then (λ code. option_map (λ text. (time, (code, text))) (option_and_then as_str (item_at 2 j)))
    (option_and_then as_str (item_at 1 j)))
    (option_and_then as_number (item_at 0 j))

-- The clock is at most 9,000,000,000,000,000 microseconds.
abbrev pub within : ℕ → ℕ → Result ℕ TimelineFault
within n clock = if nat_le clock 9000000000000000 then Ok clock else Err (fault.Moment n)

-- The clock of the event that follows one at clock `last`, in microseconds. It never falls.
abbrev pub clock_after : ℕ → Bool → ℕ → ℕ → Result ℕ TimelineFault
clock_after n true last time = within n (last + time)
clock_after n false last time = if nat_le last time then within n time else Err (fault.Back n)

-- The timeline's line for an event: output, the end of the program, or nothing.
abbrev pub line_of_scene : ℕ → ℕ → List ℕ → List ℕ → Result TimelineLine TimelineFault
line_of_scene n clock code text =
    if bytes_eq code (codes "o") then Ok (line.Child (At (clock / 1000)) 1 (what.Out text))
    else if bytes_eq code (codes "x") then (status_of n text >>= λ a. Ok (line.Exit (record { child = 1; answer = a })))
    else Ok line.Nothing

abbrev pub at_clock : ℕ → Timeline → ℕ → TimelineLine → Result Reel TimelineFault
at_clock n t clock l = with_line n t l >>= λ u. Ok (record { timeline = u; clock = clock })

-- The reel after the event of line n.
abbrev pub with_scene : ℕ → Bool → Reel → Scene → Result Reel TimelineFault
with_scene n on r s = do
  time ← or_fault (fault.Moment n) (micros_of s.0)
  clock ← clock_after n on r.clock time
  said ← line_of_scene n clock s.1.0 s.1.1
  at_clock n r.timeline clock said

-- The reel after the bytes of line n. An empty line and a comment change nothing.
abbrev pub with_event : ℕ → Bool → Reel → List ℕ → Result Reel TimelineFault
with_event n on r bytes =
    if says_nothing bytes then Ok r
    else or_fault (fault.Event n) (option_and_then scene_in (value_of bytes)) >>= with_scene n on r

abbrev pub with_all : ℕ → Bool → Reel → List (List ℕ) → Result Reel TimelineFault
with_all n on r [] = Ok r
with_all n on r (w ∷ ws) = with_event n on r w >>= λ q. with_all (n + 1) on q ws

-- Adds the end of the output at the end.
abbrev pub closed : Reel → Result Timeline TimelineFault
closed r = with_line 1 r.timeline (line.Child (After 0) 1 what.Eof)

-- The reel before the first event.
abbrev pub unplayed : Reel
unplayed = record { timeline = silence; clock = 0 }

-- The timeline of the lines after a header.
abbrev pub events_from : Bool → List ℕ → Result Timeline TimelineFault
events_from on text = with_all 2 on unplayed (parts ascii.newline text) >>= closed

abbrev pub behind_header : List ℕ → List (List ℕ) → Result Timeline TimelineFault
behind_header header ws = or_fault fault.Header (header_counts_on header) >>= λ on. (with_all 2 on unplayed ws >>= closed)

abbrev pub cast_of_parts : List (List ℕ) → Result Timeline TimelineFault
cast_of_parts [] = Err fault.Header
cast_of_parts (w ∷ ws) = behind_header w ws

-- The timeline of a cast. Its output is the output of child 1.
abbrev pub cast_of : List ℕ → Result Timeline TimelineFault
cast_of text = cast_of_parts (parts ascii.newline text)

-- The text is a cast: it begins with `{`, as a header does.
abbrev pub is_cast : List ℕ → Bool
is_cast [] = false
is_cast (b ∷ bs) = b == ascii.open_brace
