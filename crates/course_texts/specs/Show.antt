-- The text of a log's events, and what showing a log returns and writes.
use Rattle.std.specs.Prelude.{◌≡◌, ◌≢◌, ◌⊎◌, ℕ, List, [], ◌∷◌, ◌++◌, length, drop, codes, Bool, true, false, ◌==◌, if◌then◌else◌, Option, Some, None, Result, Ok, Err}
use Rattle.std.specs.Fmt.{decimal}
use Rattle.std.specs.Io.KnownBytes.{Appends}
use Rattle.tcl_words.specs.Bytes as ascii
use Rattle.child_events.specs.declared.event.Cause.{Cause}
use Rattle.child_events.specs.declared.event.Answer.{Answer}
use Rattle.child_events.specs.declared.event.Answer.TheVariants as answer
use Rattle.child_events.specs.declared.event.What.{What}
use Rattle.child_events.specs.declared.event.What.TheVariants as what
use Rattle.child_events.specs.declared.event.HallEvent.{HallEvent}
use Rattle.child_events.specs.declared.event.HallEvent.TheVariants as hall
use Rattle.child_events.specs.declared.faults.LogFault.TheVariants as logs
use Rattle.child_events.specs.Log.{cause_text, LogText}
use Rattle.child_events.specs.Reading.{Refused}
use Rattle.course_texts.specs.declared.showing.ShowFault.{ShowFault}
use Rattle.course_texts.specs.declared.showing.ShowFault.TheVariants.{Read, Log, Write, Memory}
use Rattle.report_texts.specs.Report.{labelled}
use Rattle.report_texts.specs.Escape.{quoted}
use Rattle.report_texts.specs.Devices.{WasPut, GaveUp}

-- Digits, right-aligned in eight columns. More digits are left whole.
abbrev pub in_column : List ℕ → List ℕ
in_column digits = drop (length digits) (codes "        ") ++ digits

abbrev pub moment_text : ℕ → List ℕ
moment_text m = in_column (decimal m) ++ codes " ms"

-- The answer to a request.
abbrev pub answer_text : Answer → List ℕ
answer_text answer.Ok = codes "request done"
answer_text (answer.Fail c) = codes "request failed: " ++ cause_text c
answer_text (answer.Exit n) = labelled (codes "ended with status ") n
answer_text answer.Killed = codes "ended by a signal"

-- Why a child's output can't be read any longer: exprun closed it itself, or the output was lost.
abbrev pub loss_text : Bool → Cause → List ℕ
loss_text true c = codes "output closed by exprun"
loss_text false c = codes "output lost: " ++ cause_text c

-- What happened to a child. `closed` says whether exprun had closed its output itself.
abbrev pub what_text : Bool → What → List ℕ
what_text closed (what.Out piece) = codes "wrote " ++ quoted piece
what_text closed what.Eof = codes "output ended"
what_text closed (what.ReadFail c) = loss_text closed c
what_text closed (what.Answer a) = answer_text a

-- The line of an event: its moment, its script and child, and what happened.
unfoldable pub told_line : Bool → HallEvent → List ℕ
told_line closed (hall.Child s c m w) = moment_text m ++ labelled (codes "  script ") s ++ labelled (codes "  child ") c ++ codes "  " ++ what_text closed w ++ ascii.newline ∷ []
told_line closed (hall.Tick m) = moment_text m ++ codes "  tick" ++ ascii.newline ∷ []

-- The line of an event in a log that is shown without its scripts.
abbrev pub event_line : HallEvent → List ℕ
event_line e = told_line false e

-- Whether an event belongs to a script. Every event does if no script is named, and a tick belongs to every script.
abbrev pub is_of : Option ℕ → HallEvent → Bool
is_of None e = true
is_of (Some script) (hall.Child s c m w) = s == script
is_of (Some script) (hall.Tick m) = true

abbrev pub shown_event : Option ℕ → HallEvent → List ℕ
shown_event script e = if is_of script e then event_line e else []

-- The lines of the events that belong to a script, in order.
abbrev pub shown_log : Option ℕ → List HallEvent → List ℕ
shown_log script [] = []
shown_log script (e ∷ es) = shown_event script e ++ shown_log script es

-- The text of the events whose log these bytes are, appended to the output.
pub record Shown (script : Option ℕ) (bytes : List ℕ) (old new : Option (List ℕ)) : Type 0 where
  pub events : List HallEvent
  pub log : LogText bytes events
  pub written : Appends old new (shown_log script events)

-- A front of that text is appended to the output, and nothing else.
pub record PartShown (script : Option ℕ) (bytes : List ℕ) (old new : Option (List ℕ)) : Type 0 where
  pub events : List HallEvent
  pub log : LogText bytes events
  pub written : WasPut old new (shown_log script events)

-- What showing the log of these bytes returns, and what it appends to the output.
abbrev pub Shows : Option ℕ → List ℕ → Option (List ℕ) → Option (List ℕ) → Result (Unit {0}) ShowFault → Type 0
Shows script bytes old new (Ok done) = Shown script bytes old new
Shows script bytes old new (Err Read) = Unit {0}
Shows script bytes old new (Err (Log f)) = Refused bytes f
Shows script bytes old new (Err Write) = PartShown script bytes old new
Shows script bytes old new (Err Memory) = Appends old new [] ⊎ PartShown script bytes old new

-- An error in the log is never `Memory`.
abbrev pub IsNoWant : ShowFault → Type 0
IsNoWant Read = Unit {0}
IsNoWant (Log f) = f ≢ logs.Memory
IsNoWant Write = Unit {0}
IsNoWant Memory = Unit {0}

-- An error before the first byte is written.
abbrev pub IsBefore : ShowFault → Type 0
IsBefore Read = Unit {0}
IsBefore (Log f) = Unit {0}
IsBefore Write = ⊥
IsBefore Memory = ⊥

-- What checking a log returns.
abbrev pub Judged : List ℕ → Result (List HallEvent) ShowFault → Type 0
Judged bytes (Ok events) = LogText bytes events
Judged bytes (Err Read) = ⊥
Judged bytes (Err (Log f)) = (f ≢ logs.Memory) × Refused bytes f
Judged bytes (Err Write) = ⊥
Judged bytes (Err Memory) = Unit {0}

-- What writing the text of events returns, and what it appends to the output.
abbrev pub ShowsEvents : Option ℕ → List HallEvent → Option (List ℕ) → Option (List ℕ) → ℕ → ℕ → Result (Unit {0}) ShowFault → Type 0
ShowsEvents script es old new failures calls (Ok done) = Appends old new (shown_log script es) × (failures ≡ 0)
ShowsEvents script es old new failures calls (Err Read) = ⊥
ShowsEvents script es old new failures calls (Err (Log f)) = ⊥
ShowsEvents script es old new failures calls (Err Write) = WasPut old new (shown_log script es) × GaveUp failures calls
ShowsEvents script es old new failures calls (Err Memory) = WasPut old new (shown_log script es) × (failures ≡ 0)
