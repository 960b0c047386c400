-- The explanations of scripts over a log: for each event of a script, what it then asks for, and what it waits for.
use Rattle.std.specs.Prelude.{◌≡◌, ◌≢◌, ℕ, ◌+◌, ◌-◌, ◌<◌, List, [], ◌∷◌, ◌++◌, length, drop, codes, Bool, true, false, ◌==◌, if◌then◌else◌, Option, Some, None, Result, Ok, Err, IsSomeAnd, IsTrue}
use Rattle.std.specs.List.{slice_get}
use Rattle.std.specs.Io.KnownBytes.{Appends}
use Rattle.child_events.specs.declared.event.Event.{Event}
use Rattle.child_events.specs.declared.event.HallEvent.{HallEvent}
use Rattle.child_events.specs.declared.event.HallEvent.TheVariants as hall
use Rattle.child_events.specs.declared.faults.LogFault.TheVariants as logs
use Rattle.child_events.specs.Log.{LogText}
use Rattle.child_events.specs.Reading.{Refused}
use Rattle.child_events.specs.World.{own_of}
use Rattle.tcl_host.specs.declared.ending.Ending.{Ending}
use Rattle.tcl_host.specs.declared.ending.Ending.TheVariants as ending
use Rattle.expect_core.specs.declared.request.Request.{Request}
use Rattle.session.specs.declared.report.Report.{Report}
use Rattle.session.specs.Left.{Kept, left, Fed, HasAsked, HasBegun}
use Rattle.session.specs.Spent.{Reports}
use Rattle.session.specs.Watching.{Meeting, met_from, met_over}
use Rattle.dialogue_sched.specs.declared.script.Script.{Script}
use Rattle.dialogue_sched.specs.Hall.{Begins}
use Rattle.course_texts.specs.declared.explaining.ExplainFault.{ExplainFault}
use Rattle.course_texts.specs.declared.explaining.ExplainFault.TheVariants.{Read, Log, TooManyScripts, SourceTooLong, Write, Memory}
use Rattle.report_texts.specs.Report.{labelled, head_line}
use Rattle.report_texts.specs.Escape.{quoted}
use Rattle.report_texts.specs.Devices.{WasPut}
use Rattle.secret_words.specs.declared.secrets.Secret.{Secret}
use Rattle.report_texts.specs.Masked.{IsMasked}
use Rattle.course_texts.specs.Shown.{event_line}
use Rattle.course_texts.specs.Closing.{is_closed}
use Rattle.course_texts.specs.Trail.{line_label, place_lines}
use Rattle.course_texts.specs.Waits.{request_lines, wait_lines}
use Rattle.course_texts.specs.Meetings.{course_text}
use Rattle.course_texts.specs.declared.meetings.Teller.{Teller}

-- The text of a teller, and the requests of the session that it has not written yet.
abbrev pub SaysAll : List Secret → Teller → Kept → List ℕ → Type 0
SaysAll ss t k text = IsTrue k.lives × (t.refused ≡ false) × ((asked : List Request) × HasAsked k asked × (text ≡ t.text ++ request_lines ss (drop t.told asked)))

-- Whether an event is a tick after which the script began no further step.
abbrev pub is_quiet : HallEvent → Bool → Bool
is_quiet (hall.Child s c m w) still = false
is_quiet (hall.Tick m) still = still

-- The line of an event. The script's report up to then says what the script had asked for, and whether it had ended.
abbrev pub line_behind : List Secret → Report → HallEvent → List ℕ
line_behind ss so_far e = event_line ss (is_closed so_far.requests so_far.ending e) e

-- The text of an event: its line, the matches, the requests after the first `n`, and what the script waits for then.
-- The last part is left out for a tick after which the script began no further step.
abbrev pub step_text : List Secret → Report → HallEvent → ℕ → List Meeting → List Request → Bool → Kept → List ℕ
step_text ss so_far e n met asked still k = line_behind ss so_far e ++ (course_text ss n met asked ++ (if is_quiet e still then [] else wait_lines ss k))

-- The text of a script's own events, from its first state to its state now. Events of other scripts add no text.
pub data Told (ss : List Secret) (n : ℕ) (first : Kept) : List HallEvent → List ℕ → Kept → Type 0 where
  at_first : Told ss n first [] [] first
  others : (es : List HallEvent) (text : List ℕ) (k : Kept) (e : HallEvent) → own_of n e ≡ None → Told ss n first es text k → Told ss n first (es ++ e ∷ []) text k
  own : (es : List HallEvent) (text : List ℕ) (k l : Kept) (e : HallEvent) (event : Event) (before after : List Request) (met : List Meeting) (begun steps : ℕ)
      → own_of n e ≡ Some event → HasAsked k before → HasBegun k begun → Fed k (event ∷ []) l → HasAsked l after → HasBegun l steps
      → ((later : List Event) → met_from k (event ∷ later) ≡ met ++ met_from l later)
      → Told ss n first es text k → Told ss n first (es ++ e ∷ []) (text ++ step_text ss (left k []) e (length before) met after (begun == steps) l) l

-- What one of a script's own events changes, and the text that it adds.
pub record OwnTold (ss : List Secret) (e : HallEvent) (event : Event) (old new : Kept) (text text' : List ℕ) : Type 0 where
  pub before : List Request
  pub after : List Request
  pub met : List Meeting
  pub begun : ℕ
  pub steps : ℕ
  pub asked : HasAsked old before
  pub began : HasBegun old begun
  pub fed : Fed old (event ∷ []) new
  pub asks : HasAsked new after
  pub begins : HasBegun new steps
  pub meets : (later : List Event) → met_from old (event ∷ later) ≡ met ++ met_from new later
  pub told : text' ≡ text ++ step_text ss (left old []) e (length before) met after (begun == steps) new

-- The same for any event. An event of another script changes nothing.
abbrev pub StepOf : List Secret → Option Event → HallEvent → Kept → Kept → List ℕ → List ℕ → Type 0
StepOf ss None e old new text text' = (new ≡ old) × (text' ≡ text)
StepOf ss (Some event) e old new text text' = OwnTold ss e event old new text text'

abbrev pub StepTold : List Secret → ℕ → HallEvent → Kept → Kept → List ℕ → List ℕ → Type 0
StepTold ss n e old new text text' = StepOf ss (own_of n e) e old new text text'

-- The text of a script's events is appended to another text.
abbrev pub TellsBehind : List Secret → ℕ → Kept → List HallEvent → List ℕ → Kept → List ℕ → Type 0
TellsBehind ss n first es before k text = (told : List ℕ) × Told ss n first es told k × (text ≡ before ++ told)

unfoldable pub heading : ℕ → List ℕ
heading n = labelled (codes "script ") n ++ codes "\n"

-- The beginning of an explanation.
abbrev pub start_text : List Secret → ℕ → List Meeting → List Request → Kept → List ℕ
start_text ss n met asked k = heading n ++ (course_text ss 0 met asked ++ wait_lines ss k)

-- The session of script `n` at its first wait, and its text.
pub record Starts (ss : List Secret) (n : ℕ) (script : Script) (k : Kept) (text : List ℕ) : Type 0 where
  pub asked : List Request
  pub met : List Meeting
  pub begins : Begins script k
  pub asks : HasAsked k asked
  pub meets : (later : List Event) → met_over script.source script.settings later ≡ met ++ met_from k later
  pub is : text ≡ start_text ss n met asked k

abbrev pub StartsOne : List Secret → ℕ → Script → Result (Kept × List ℕ) ExplainFault → Type 0
StartsOne ss n script (Ok r) = Starts ss n script r.0 r.1
StartsOne ss n script (Err Read) = ⊥
StartsOne ss n script (Err (Log f)) = ⊥
StartsOne ss n script (Err TooManyScripts) = ⊥
StartsOne ss n script (Err (SourceTooLong at)) = (at ≡ n) × (1048576 < length script.source)
StartsOne ss n script (Err Write) = ⊥
StartsOne ss n script (Err Memory) = Unit {0}

-- The line of an error. It is empty for the other endings.
abbrev pub fault_line : Ending → List ℕ → List ℕ
fault_line ending.Error fault = codes "error: " ++ quoted fault ++ codes "\n"
fault_line (ending.Exit n) fault = []
fault_line ending.StepLimit fault = []
fault_line ending.TimeLimit fault = []
fault_line ending.Memory fault = []
fault_line ending.Waiting fault = []

-- The end of an explanation: the first line of the script's report, its error, and where the error occurred.
unfoldable pub end_text : ℕ → Report → List ℕ
end_text n r = head_line n r ++ fault_line r.ending r.fault ++ place_lines line_label r.trail

-- The explanation of script `n` over events.
pub record Course (ss : List Secret) (n : ℕ) (script : Script) (events : List HallEvent) (text : List ℕ) : Type 0 where
  pub first : Kept
  pub start : List ℕ
  pub told : List ℕ
  pub last : Kept
  pub report : Report
  pub starts : Starts ss n script first start
  pub goes : Told ss n first events told last
  pub ends : Reports last report
  pub shown : Report
  pub masks : IsMasked ss report shown
  pub is : text ≡ start ++ (told ++ end_text n shown)

-- Whether script `n` is explained: all are, or only one is.
abbrev pub is_told : Option ℕ → ℕ → Bool
is_told None n = true
is_told (Some only) n = n == only

-- The explanations of scripts, numbered from 1, in order.
pub data Explained (ss : List Secret) (only : Option ℕ) (events : List HallEvent) : List Script → List ℕ → Type 0 where
  no_script : Explained ss only events [] []
  silent : (done : List Script) (text : List ℕ) (s : Script) → is_told only (length done + 1) ≡ false → Explained ss only events done text → Explained ss only events (done ++ s ∷ []) text
  told : (done : List Script) (text course : List ℕ) (s : Script) → is_told only (length done + 1) ≡ true → Course ss (length done + 1) s events course
      → Explained ss only events done text → Explained ss only events (done ++ s ∷ []) (text ++ course)

-- The source of script `n` is too long.
abbrev pub IsTooLong : List Script → ℕ → Type 0
IsTooLong scripts n = IsSomeAnd (slice_get scripts (n - 1)) (λ s. 1048576 < length s.source)

-- The bytes are the log of events, and the text explains the scripts over these events.
pub record Courses (ss : List Secret) (only : Option ℕ) (scripts : List Script) (bytes text : List ℕ) : Type 0 where
  pub events : List HallEvent
  pub log : LogText bytes events
  pub courses : Explained ss only events scripts text

-- What explaining the scripts over a log returns, and what it appends to the output.
abbrev pub Explains : List Secret → Option ℕ → List Script → List ℕ → Option (List ℕ) → Option (List ℕ) → Result (Unit {0}) ExplainFault → Type 0
Explains ss only scripts bytes old new (Ok done) = (text : List ℕ) × Courses ss only scripts bytes text × Appends old new text
Explains ss only scripts bytes old new (Err Read) = Unit {0}
Explains ss only scripts bytes old new (Err (Log f)) = Refused bytes f
Explains ss only scripts bytes old new (Err TooManyScripts) = 64 < length scripts
Explains ss only scripts bytes old new (Err (SourceTooLong n)) = IsTooLong scripts n
Explains ss only scripts bytes old new (Err Write) = (text : List ℕ) × Courses ss only scripts bytes text × WasPut old new text
Explains ss only scripts bytes old new (Err Memory) = Unit {0}

-- What explaining the scripts over events returns.
abbrev pub Tells : List Secret → Option ℕ → List HallEvent → List Script → Result (List ℕ) ExplainFault → Type 0
Tells ss only events scripts (Ok text) = Explained ss only events scripts text
Tells ss only events scripts (Err Read) = ⊥
Tells ss only events scripts (Err (Log f)) = ⊥
Tells ss only events scripts (Err TooManyScripts) = ⊥
Tells ss only events scripts (Err (SourceTooLong n)) = IsTooLong scripts n
Tells ss only events scripts (Err Write) = ⊥
Tells ss only events scripts (Err Memory) = Unit {0}

-- What explaining one script returns. A source that is too long has no explanation.
abbrev pub TellsOne : List Secret → ℕ → Script → List HallEvent → Result (List ℕ) ExplainFault → Type 0
TellsOne ss n script events (Ok text) = Course ss n script events text
TellsOne ss n script events (Err Read) = ⊥
TellsOne ss n script events (Err (Log f)) = ⊥
TellsOne ss n script events (Err TooManyScripts) = ⊥
TellsOne ss n script events (Err (SourceTooLong at)) = (at ≡ n) × (1048576 < length script.source)
TellsOne ss n script events (Err Write) = ⊥
TellsOne ss n script events (Err Memory) = Unit {0}

-- What checking a log returns.
abbrev pub Judged : List ℕ → Result (List HallEvent) ExplainFault → Type 0
Judged bytes (Ok events) = LogText bytes events
Judged bytes (Err Read) = ⊥
Judged bytes (Err (Log f)) = (f ≢ logs.Memory) × Refused bytes f
Judged bytes (Err TooManyScripts) = ⊥
Judged bytes (Err (SourceTooLong n)) = ⊥
Judged bytes (Err Write) = ⊥
Judged bytes (Err Memory) = Unit {0}

-- An error in the log is never `Memory`.
abbrev pub IsNoWant : ExplainFault → Type 0
IsNoWant (Log f) = f ≢ logs.Memory
IsNoWant Read = Unit {0}
IsNoWant TooManyScripts = Unit {0}
IsNoWant (SourceTooLong n) = Unit {0}
IsNoWant Write = Unit {0}
IsNoWant Memory = Unit {0}
