-- Logs that are checked first and read afterwards, or checked while they are read.
use Rattle.std.specs.Prelude.{◌≡◌, ℕ, zero, suc, ◌+◌, ◌<◌, ◌≤◌, ◌%◌, ◌^◌, nat_le, true, false, ◌==◌, ◌&&◌, IsTrue, List, [], ◌∷◌, ◌++◌, length, IsOk, Option, Some, None, Result, Ok, Err, ⊤}
use Rattle.hex.specs.Hex.{decode_of}
use Rattle.tcl_words.specs.Bytes as ascii
use Rattle.child_events.specs.declared.event.What.TheVariants as what
use Rattle.child_events.specs.declared.event.HallEvent.{HallEvent}
use Rattle.child_events.specs.declared.event.HallEvent.TheVariants as hall
use Rattle.child_events.specs.declared.faults.LogFault.{LogFault}
use Rattle.child_events.specs.declared.faults.LogFault.TheVariants as fault
use Rattle.child_events.specs.declared.child_numbers.ChildNumbers.{ChildNumbers}
use Rattle.child_events.specs.declared.version.Version.{Version}
use Rattle.child_events.specs.declared.fields.Stamp.{Stamp}
use Rattle.child_events.specs.declared.line.LogLine.{LogLine}
use Rattle.child_events.specs.declared.line.LogLine.TheVariants as line
use Rattle.child_events.specs.Log.{least_child, most_child, LogText}
use Rattle.child_events.specs.Reading.{Refused, ◌>>=◌, parts, all_lower_hex, piece_of, stamped, line_event, numbers_in, lines_events}

-- The event that line n describes, or its error.
abbrev pub said_event : ℕ → LogLine → Result HallEvent LogFault
said_event n (line.Event e) = Ok e
said_event n (line.Piece stamp digits) = stamped (Ok stamp) (piece_of n digits >>= λ piece. Ok (what.Out piece))

abbrev pub says : ℕ → Result LogLine LogFault → Result HallEvent LogFault
says n read = read >>= said_event n

-- The error of a result, without its value.
abbrev pub judged : {A : Type 0} → Result A LogFault → Result ⊤ LogFault
judged r = r >>= λ x. Ok tt

-- The events of k lines from line n on. Each of these lines ends with a newline.
abbrev pub lines_read : ChildNumbers → ℕ → ℕ → List (List ℕ) → Result (List HallEvent) LogFault
lines_read nums n zero ws = Ok []
lines_read nums n (suc k) [] = Err (fault.Shape n)
lines_read nums n (suc k) (w ∷ []) = Err (fault.Shape n)
lines_read nums n (suc k) (w ∷ x ∷ ws) = line_event nums n w >>= λ e. lines_read nums (n + 1) k (x ∷ ws) >>= λ es. Ok (e ∷ es)

abbrev pub events_in : Result (List HallEvent) LogFault → List HallEvent
events_in (Ok es) = es
events_in (Err f) = []

-- k lines are left from line n on, and each describes an event.
pub record AreJudged (nums : ChildNumbers) (n k : ℕ) (rest : List ℕ) : Type 0 where
  pub events : IsOk (lines_read nums n k (parts ascii.newline rest))
  pub few : n + k < 2 ^ 64

-- `Ok k`: the first k lines from line n on are the events of the log. `Err f`: f is the first error.
abbrev pub Judges : Version → ℕ → List (List ℕ) → Result ℕ LogFault → Type 0
Judges v n ws (Ok k) = (lines_events v n ws ≡ lines_read (numbers_in v) n k ws) × IsOk (lines_read (numbers_in v) n k ws)
Judges v n ws (Err f) = lines_events v n ws ≡ Err f

-- The rest of a log that is checked while it is read: its length in bytes, and the events or the error in it.
pub record Left : Type 0 where
  pub bytes : ℕ
  pub said : Result (List HallEvent) LogFault

-- The events whose log these bytes are, or the error that makes them no log.
abbrev pub SaysLog : List ℕ → Result (List HallEvent) LogFault → Type 0
SaysLog bytes (Ok es) = LogText bytes es
SaysLog bytes (Err f) = Refused bytes f

-- These events, followed by the rest. An error of the rest stays the result.
abbrev pub front_of : List HallEvent → Result (List HallEvent) LogFault → Result (List HallEvent) LogFault
front_of front (Ok es) = Ok (front ++ es)
front_of front (Err f) = Err f

-- Reading takes these events from the rest. Each event takes at least one byte.
pub record GivesPart (old : Left) (es : List HallEvent) (new : Left) : Type 0 where
  pub said : old.said ≡ front_of es new.said
  pub fewer : length es + new.bytes ≤ old.bytes

-- Reading takes the next event from the rest. `None` means that the log has ended without an error.
abbrev pub GivesNext : Left → Option HallEvent → Left → Type 0
GivesNext old (Some e) new = GivesPart old (e ∷ []) new
GivesNext old None new = (old.said ≡ Ok []) × (new ≡ old)

-- The three numbers are within their limits, and the stamp contains them.
pub record IsStampOf (nums : ChildNumbers) (script child moment : ℕ) (stamp : Stamp) : Type 0 where
  pub script_fits : IsTrue (nat_le 1 script && nat_le script 64)
  pub child_fits : IsTrue (nat_le (least_child nums) child && nat_le child (most_child nums))
  pub moment_fits : moment ≤ 9000000000000000
  pub same : stamp ≡ record { script = script; child = child; moment = moment }

-- The hexadecimal digits of a non-empty piece: lower-case pairs, at most 8192 digits.
pub record ArePairs (digits : List ℕ) : Type 0 where
  pub lower : IsTrue (all_lower_hex digits)
  pub even : length digits % 2 ≡ 0
  pub some : 0 < length digits
  pub few : length digits ≤ 8192

-- The bytes that pairs of lower-case hexadecimal digits encode, or `None` if the digits are no such pairs.
abbrev pub Decodes : List ℕ → Option (List ℕ) → Type 0
Decodes w (Some bytes) = (length w % 2 ≡ 0) × (all_lower_hex w ≡ true) × (decode_of w ≡ Ok bytes)
Decodes w None = (length w % 2 == 0 && all_lower_hex w) ≡ false

-- The line describes these bytes as output, whatever its line number.
abbrev pub SaysPiece : ChildNumbers → List ℕ → Stamp → List ℕ → Type 0
SaysPiece nums text stamp bytes = (n : ℕ) → line_event nums n text ≡ Ok (hall.Child stamp.script stamp.child stamp.moment (what.Out bytes))

-- A correct line of output, whatever its line number. These digits encode the output.
pub record IsPieceLine (nums : ChildNumbers) (text : List ℕ) (stamp : Stamp) (digits : List ℕ) : Type 0 where
  pub pairs : ArePairs digits
  pub event : (n : ℕ) → line_event nums n text ≡ said_event n (line.Piece stamp digits)
