-- The meaning of the lines of a log, or the first error. Lines count from 1, and the first bad line decides. Within a
-- line the length is checked first, then the shape, then the fields from left to right. In versions 2 and 3 the first
-- line names the version, and the last one is the total.
use Rattle.std.specs.Prelude.{◌≡◌, ◌≢◌, ◌<◌, ℕ, ◌+◌, ◌-◌, ◌%◌, nat_le, nat_lt, ◌==◌, List, [], ◌∷◌, length, codes, Bool, true, false, not, ◌&&◌, ◌||◌, if◌then◌else◌, Option, Some, None, Result, Ok, Err, ⊤}
use Rattle.std.specs.Borrow.{Bor}
use Rattle.std.specs.Str.{bytes_eq, all_ascii_digits}
use Rattle.std.specs.Str.Parse.{digits_value}
use Rattle.tcl_words.specs.Bytes as ascii
use Rattle.hex.specs.Hex.{decode_of}
use Rattle.hex.specs.declared.error.FromHexError.{FromHexError}
use Rattle.child_events.specs.declared.event.Cause.{Cause}
use Rattle.child_events.specs.declared.event.Cause.TheVariants as cause
use Rattle.child_events.specs.declared.event.Answer.TheVariants as answer
use Rattle.child_events.specs.declared.event.What.{What}
use Rattle.child_events.specs.declared.event.What.TheVariants as what
use Rattle.child_events.specs.declared.event.HallEvent.{HallEvent}
use Rattle.child_events.specs.declared.event.HallEvent.TheVariants as hall
use Rattle.child_events.specs.declared.fields.Stamp.{Stamp}
use Rattle.child_events.specs.declared.faults.LogFault.{LogFault}
use Rattle.child_events.specs.declared.faults.LogFault.TheVariants as fault
use Rattle.child_events.specs.declared.child_numbers.ChildNumbers.{ChildNumbers}
use Rattle.child_events.specs.declared.child_numbers.ChildNumbers.TheVariants.{To16, To999}
use Rattle.child_events.specs.declared.version.Version.{Version}
use Rattle.child_events.specs.declared.version.Version.TheVariants.{Plain, Counted}
use Rattle.child_events.specs.Log.{joined, least_child, most_child, longest, version_name, LogText}

-- Reads one part and then the next. The first error ends the reading.
infixl 10 ◌>>=◌
abbrev pub ◌>>=◌ : {A B : Type 0} → Result A LogFault → (A → Result B LogFault) → Result B LogFault
Ok x >>= f = f x
Err e >>= f = Err e

abbrev pub or_fault : {A : Type 0} → LogFault → Option A → Result A LogFault
or_fault f None = Err f
or_fault f (Some x) = Ok x

-- Adds a byte at the front of the first part.
abbrev pub in_front : ℕ → List (List ℕ) → List (List ℕ)
in_front b [] = (b ∷ []) ∷ []
in_front b (w ∷ ws) = (b ∷ w) ∷ ws

-- Splits a text at each separator. There is always at least one part.
abbrev pub parts : ℕ → List ℕ → List (List ℕ)
parts sep [] = [] ∷ []
parts sep (b ∷ bs) = if b == sep then [] ∷ parts sep bs else in_front b (parts sep bs)

-- `0`, or digits whose first is not `0`.
abbrev pub starts_number : List ℕ → Bool
starts_number [] = false
starts_number (d ∷ []) = true
starts_number (d ∷ e ∷ ds) = not (d == ascii.digit_0)

abbrev pub digits_number : List ℕ → Option ℕ
digits_number w = if all_ascii_digits w then Some (digits_value 10 w) else None

-- The number that at most sixteen decimal digits write.
abbrev pub number_of : List ℕ → Option ℕ
number_of w = if starts_number w && nat_le (length w) 16 then digits_number w else None

-- A number between two bounds, or the error `outside` if it is out of bounds.
abbrev pub number_within : ℕ → List ℕ → ℕ → ℕ → LogFault → Result ℕ LogFault
number_within n w low high outside = do
  k ← or_fault (fault.Number n) (number_of w)
  if nat_le low k && nat_le k high then Ok k else Err outside

abbrev pub is_lower_hex_digit : ℕ → Bool
is_lower_hex_digit d = (nat_le ascii.digit_0 d && nat_le d ascii.digit_9) || (nat_le ascii.letter_a d && nat_le d ascii.letter_f)

abbrev pub all_lower_hex : List ℕ → Bool
all_lower_hex [] = true
all_lower_hex (d ∷ ds) = is_lower_hex_digit d && all_lower_hex ds

abbrev pub decoded : ℕ → Result (List ℕ) FromHexError → Result (List ℕ) LogFault
decoded n (Ok bytes) = Ok bytes
decoded n (Err e) = Err (fault.Hex n)

-- The bytes that lower-case pairs of digits encode. `-` encodes no bytes.
abbrev pub piece_of : ℕ → List ℕ → Result (List ℕ) LogFault
piece_of n w =
    if bytes_eq w (codes "-") then Ok []
    else if not (length w % 2 == 0 && all_lower_hex w) then Err (fault.Hex n)
    else if nat_lt 8192 (length w) then Err (fault.TooLong n)
    else decoded n (decode_of w)

abbrev pub cause_of : List ℕ → Option Cause
cause_of w =
    if bytes_eq w (codes "notfound") then Some cause.NotFound
    else if bytes_eq w (codes "denied") then Some cause.Denied
    else if bytes_eq w (codes "broken") then Some cause.Broken
    else if bytes_eq w (codes "memory") then Some cause.Memory
    else if bytes_eq w (codes "other") then Some cause.Other
    else None

-- The event of a line with no last word: the first word determines it.
abbrev pub what_alone : List ℕ → Option What
what_alone k =
    if bytes_eq k (codes "ok") then Some (what.Answer answer.Ok)
    else if bytes_eq k (codes "end") then Some what.Eof
    else if bytes_eq k (codes "killed") then Some (what.Answer answer.Killed)
    else None

abbrev pub failed : List ℕ → Cause → Option What
failed k c =
    if bytes_eq k (codes "fail") then Some (what.ReadFail c)
    else if bytes_eq k (codes "bad") then Some (what.Answer (answer.Fail c))
    else None

-- The event of a line whose last word is a cause.
abbrev pub what_failed : List ℕ → Option Cause → Option What
what_failed k None = None
what_failed k (Some c) = failed k c

abbrev pub moment_of : ℕ → List ℕ → Result ℕ LogFault
moment_of n m = number_within n m 0 9000000000000000 (fault.Number n)

-- The script, the child and the moment of an event.
abbrev pub stamp_of : ChildNumbers → ℕ → List ℕ → List ℕ → List ℕ → Result Stamp LogFault
stamp_of nums n s c m = do
  script ← number_within n s 1 64 (fault.NoSuchScript n)
  child ← number_within n c (least_child nums) (most_child nums) (fault.NoSuchChild n)
  moment ← moment_of n m
  Ok (record { script = script; child = child; moment = moment })

abbrev pub stamped : Result Stamp LogFault → Result What LogFault → Result HallEvent LogFault
stamped stamp held = do
  at ← stamp
  w ← held
  Ok (hall.Child at.script at.child at.moment w)

-- If the last word is a cause, it is checked before the stamp.
abbrev pub failed_event : ℕ → List ℕ → List ℕ → Result Stamp LogFault → Result HallEvent LogFault
failed_event n k x stamp = or_fault (fault.Shape n) (what_failed k (cause_of x)) >>= λ w. stamped stamp (Ok w)

-- If the last word is a number or hexadecimal, it is checked after the stamp.
abbrev pub held_event : ℕ → List ℕ → List ℕ → Result Stamp LogFault → Result HallEvent LogFault
held_event n k x stamp =
    if bytes_eq k (codes "out") then stamped stamp (piece_of n x >>= λ piece. Ok (what.Out piece))
    else if bytes_eq k (codes "exit") then stamped stamp (number_within n x 0 255 (fault.Number n) >>= λ status. Ok (what.Answer (answer.Exit status)))
    else failed_event n k x stamp

-- The event of a line of two fields.
abbrev pub tick_of : ℕ → List ℕ → List ℕ → Result HallEvent LogFault
tick_of n k m = if bytes_eq k (codes "tick") then (moment_of n m >>= λ moment. Ok (hall.Tick moment)) else Err (fault.Shape n)

abbrev pub event_of : ChildNumbers → ℕ → List (List ℕ) → Result HallEvent LogFault
event_of nums n [] = Err (fault.Shape n)
event_of nums n (k ∷ []) = Err (fault.Shape n)
event_of nums n (k ∷ m ∷ []) = tick_of n k m
event_of nums n (k ∷ s ∷ m ∷ []) = Err (fault.Shape n)
event_of nums n (k ∷ s ∷ c ∷ m ∷ []) = or_fault (fault.Shape n) (what_alone k) >>= λ w. stamped (stamp_of nums n s c m) (Ok w)
event_of nums n (k ∷ s ∷ c ∷ m ∷ x ∷ []) = held_event n k x (stamp_of nums n s c m)
event_of nums n (k ∷ s ∷ c ∷ m ∷ x ∷ y ∷ more) = Err (fault.Shape n)

abbrev pub any_empty : List (List ℕ) → Bool
any_empty [] = false
any_empty (w ∷ ws) = length w == 0 || any_empty ws

-- The event that the fields of a line describe.
abbrev pub fields_event : ChildNumbers → ℕ → List (List ℕ) → Result HallEvent LogFault
fields_event nums n fields = if any_empty fields then Err (fault.Shape n) else event_of nums n fields

abbrev pub line_event : ChildNumbers → ℕ → List ℕ → Result HallEvent LogFault
line_event nums n line = if nat_lt (longest nums) (length line) then Err (fault.TooLong n) else fields_event nums n (parts ascii.space line)

-- Only versions 2 and 3 have a first line with their name and a last line with the number of events.

abbrev pub first_word : List (List ℕ) → List ℕ
first_word [] = []
first_word (w ∷ ws) = w

-- The version that a first line names, or version 1 if it names none.
abbrev pub version_of : List ℕ → Result Version LogFault
version_of line =
    if nat_lt (longest To16) (length line) || not (bytes_eq (first_word (parts ascii.space line)) (codes "exprun-log")) then Ok Plain
    else if bytes_eq line (version_name To16) then Ok (Counted To16)
    else if bytes_eq line (version_name To999) then Ok (Counted To999)
    else Err (fault.Version 1)

abbrev pub numbers_in : Version → ChildNumbers
numbers_in Plain = To16
numbers_in (Counted nums) = nums

-- The line number of the first event.
abbrev pub first_line : Version → ℕ
first_line Plain = 1
first_line (Counted nums) = 2

-- The total in line n, if its fields are those of a total. Otherwise the error f, for which the line is no event.
abbrev pub total_of : ℕ → LogFault → List (List ℕ) → Result ℕ LogFault
total_of n f [] = Err f
total_of n f (k ∷ []) = Err f
total_of n f (k ∷ m ∷ []) = if bytes_eq k (codes "total") && not (length m == 0) then or_fault (fault.Number n) (number_of m) else Err f
total_of n f (k ∷ m ∷ x ∷ more) = Err f

-- The total in line n. A line that is too long is no total, and version 1 has no total.
abbrev pub line_total : Version → ℕ → LogFault → List ℕ → Result ℕ LogFault
line_total Plain n f line = Err f
line_total (Counted nums) n f line = if nat_lt (longest nums) (length line) then Err f else total_of n f (parts ascii.space line)

-- Line n contains the number of events, and no bytes follow it.
abbrev pub closed : ℕ → ℕ → ℕ → List (List ℕ) → Result ⊤ LogFault
closed n seen total behind =
    if not (total == seen) then Err (fault.Total n)
    else if not (length (joined ascii.newline behind) == 0) then Err (fault.Total (n + 1))
    else Ok tt

-- The log ends before line n. Version 1 may end so, and the others lack their total.
abbrev pub at_end : Version → ℕ → Result ⊤ LogFault
at_end Plain n = Ok tt
at_end (Counted nums) n = Err (fault.Total n)

-- No bytes may follow the last newline.
abbrev pub last_part : Version → ℕ → List ℕ → Result ⊤ LogFault
last_part v n w =
    if nat_lt (longest (numbers_in v)) (length w) then Err (fault.TooLong n)
    else if not (length w == 0) then Err (fault.Shape n)
    else at_end v n

-- Line n is no event, and ends the log as its total.
abbrev pub ended : Version → ℕ → List ℕ → LogFault → List (List ℕ) → Result ⊤ LogFault
ended v n w f behind = line_total v n f w >>= λ k. closed n (n - 2) k behind

-- No events, if the log may end here.
abbrev pub none_where : Result ⊤ LogFault → Result (List HallEvent) LogFault
none_where ended = ended >>= λ done. Ok []

-- A line is an event followed by others, or it is the total and ends the log.
abbrev pub with_line : Version → ℕ → List ℕ → Result HallEvent LogFault → List (List ℕ) → Result (List HallEvent) LogFault → Result (List HallEvent) LogFault
with_line v n w (Ok e) behind others = others >>= λ es. Ok (e ∷ es)
with_line v n w (Err f) behind others = none_where (ended v n w f behind)

-- The events of the lines. The first line has number n.
abbrev pub lines_events : Version → ℕ → List (List ℕ) → Result (List HallEvent) LogFault
lines_events v n [] = Ok []
lines_events v n (w ∷ []) = none_where (last_part v n w)
lines_events v n (w ∷ x ∷ ws) = with_line v n w (line_event (numbers_in v) n w) (x ∷ ws) (lines_events v (n + 1) (x ∷ ws))

-- The events of a log whose first line names this version.
abbrev pub version_events : List ℕ → List (List ℕ) → Version → Result (List HallEvent) LogFault
version_events w behind Plain = lines_events Plain 1 (w ∷ behind)
version_events w behind (Counted nums) = lines_events (Counted nums) 2 behind

abbrev pub parts_events : List (List ℕ) → Result (List HallEvent) LogFault
parts_events [] = Ok []
parts_events (w ∷ []) = lines_events Plain 1 (w ∷ [])
parts_events (w ∷ x ∷ ws) = version_of w >>= version_events w (x ∷ ws)

abbrev pub log_events : List ℕ → Result (List HallEvent) LogFault
log_events bytes = parts_events (parts ascii.newline bytes)

abbrev pub fault_in : {A : Type 0} → Result A LogFault → Option LogFault
fault_in (Ok x) = None
fault_in (Err f) = Some f

-- The first error of bytes that are no log, or `None`.
abbrev pub first_fault : List ℕ → Option LogFault
first_fault bytes = fault_in (log_events bytes)

-- The result of a reading that may also fail because memory was refused.
abbrev pub Reads : {A : Type 0} → Result A LogFault → Result A LogFault → Type 0
Reads (Ok x) meant = meant ≡ Ok x
Reads (Err f) meant = f ≢ fault.Memory → meant ≡ Err f

-- f is the first error, and the bytes are no log of any list of events.
abbrev pub Refused : List ℕ → LogFault → Type 0
Refused bytes f = (first_fault bytes ≡ Some f) × ((es : List HallEvent) → LogText bytes es → ⊥)

-- The bytes before and after the first separator, or `None` if there is no separator.
abbrev pub SplitsAt : ℕ → List ℕ → Option (Bor (List ℕ) × Bor (List ℕ)) → Type 0
SplitsAt sep bs None = parts sep bs ≡ bs ∷ []
SplitsAt sep bs (Some found) = (parts sep bs ≡ found.0.now ∷ parts sep found.1.now) × (length found.1.now < length bs)

-- The first field is the number n, and these are the fields after it.
pub record NumberFirst (bytes : List ℕ) (n : ℕ) (behind : List ℕ) : Type 0 where
  pub word : List ℕ
  pub split : parts ascii.space bytes ≡ word ∷ parts ascii.space behind
  pub number : number_of word ≡ Some n
