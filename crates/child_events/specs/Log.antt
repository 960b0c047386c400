-- The text of a log: one line per event, each ended by a newline. Versions 2 and 3 add a first line that names the
-- version and a last line with the number of events. They differ in the numbers of children.
use Rattle.std.specs.Prelude.{◌≡◌, ◌⊎◌, ℕ, ◌<◌, ◌^◌, nat_le, List, [], ◌∷◌, ◌++◌, length, codes, Bool, ◌&&◌, if◌then◌else◌, IsTrue}
use Rattle.std.specs.List.{flat_map, list_all, AllByRecursion}
use Rattle.std.specs.Fmt.{decimal}
use Rattle.tcl_words.specs.Bytes as ascii
use Rattle.hex.specs.Hex.{encode_lower, IsBytes}
use Rattle.child_events.specs.declared.child_numbers.ChildNumbers.{ChildNumbers}
use Rattle.child_events.specs.declared.child_numbers.ChildNumbers.TheVariants.{To16, To999}
use Rattle.child_events.specs.declared.event.Cause.{Cause}
use Rattle.child_events.specs.declared.event.Cause.TheVariants as cause
use Rattle.child_events.specs.declared.event.Answer.TheVariants as answer
use Rattle.child_events.specs.declared.event.What.{What}
use Rattle.child_events.specs.declared.event.What.TheVariants as what
use Rattle.child_events.specs.declared.event.HallEvent.{HallEvent}
use Rattle.child_events.specs.declared.event.HallEvent.TheVariants as hall

abbrev pub cause_text : Cause → List ℕ
cause_text cause.NotFound = codes "notfound"
cause_text cause.Denied = codes "denied"
cause_text cause.Broken = codes "broken"
cause_text cause.Memory = codes "memory"
cause_text cause.Other = codes "other"

-- A piece in lower-case hexadecimal, or `-` if it is empty.
abbrev pub hex_text : List ℕ → List ℕ
hex_text [] = codes "-"
hex_text (b ∷ bs) = encode_lower (b ∷ bs)

-- The first word of an event's line.
abbrev pub kind_text : What → List ℕ
kind_text (what.Out piece) = codes "out"
kind_text what.Eof = codes "end"
kind_text (what.ReadFail c) = codes "fail"
kind_text (what.Answer answer.Ok) = codes "ok"
kind_text (what.Answer (answer.Fail c)) = codes "bad"
kind_text (what.Answer (answer.Exit n)) = codes "exit"
kind_text (what.Answer answer.Killed) = codes "killed"

-- The last word of an event's line, if the event carries a value.
abbrev pub held_text : What → List (List ℕ)
held_text (what.Out piece) = hex_text piece ∷ []
held_text what.Eof = []
held_text (what.ReadFail c) = cause_text c ∷ []
held_text (what.Answer answer.Ok) = []
held_text (what.Answer (answer.Fail c)) = cause_text c ∷ []
held_text (what.Answer (answer.Exit n)) = decimal n ∷ []
held_text (what.Answer answer.Killed) = []

abbrev pub fields_of : HallEvent → List (List ℕ)
fields_of (hall.Child s c m w) = kind_text w ∷ decimal s ∷ decimal c ∷ decimal m ∷ held_text w
fields_of (hall.Tick m) = codes "tick" ∷ decimal m ∷ []

-- The texts, with a separator between any two.
abbrev pub joined : ℕ → List (List ℕ) → List ℕ
joined sep [] = []
joined sep (w ∷ ws) = w ++ flat_map (λ v. sep ∷ v) ws

-- An event's line: its words, separated by one space each.
abbrev pub line_of : HallEvent → List ℕ
line_of e = joined ascii.space (fields_of e)

-- The lines of a list of events.
abbrev pub lines_text : List HallEvent → List ℕ
lines_text es = flat_map (λ e. line_of e ++ ascii.newline ∷ []) es

-- The numbers of children from 1 to 16, in versions 1 and 2, or from 0 to 999, in version 3.
abbrev pub least_child : ChildNumbers → ℕ
least_child To16 = 1
least_child To999 = 0

abbrev pub most_child : ChildNumbers → ℕ
most_child To16 = 16
most_child To999 = 999

-- The length of the longest line, without its newline.
abbrev pub longest : ChildNumbers → ℕ
longest To16 = 8219
longest To999 = 8220

abbrev pub version_name : ChildNumbers → List ℕ
version_name To16 = codes "exprun-log 2"
version_name To999 = codes "exprun-log 3"

-- The first line of versions 2 and 3, with its newline.
abbrev pub heading : ChildNumbers → List ℕ
heading nums = version_name nums ++ ascii.newline ∷ []

-- The last line of versions 2 and 3, with its newline. n is the number of events before it.
abbrev pub total_line : ℕ → List ℕ
total_line n = joined ascii.space (codes "total" ∷ decimal n ∷ []) ++ ascii.newline ∷ []

-- The text of a list of events in version 2 or 3.
abbrev pub counted_text : ChildNumbers → List HallEvent → List ℕ
counted_text nums es = heading nums ++ (lines_text es ++ total_line (length es))

abbrev pub piece_len : What → ℕ
piece_len (what.Out piece) = length piece
piece_len what.Eof = 0
piece_len (what.ReadFail c) = 0
piece_len (what.Answer a) = 0

-- The event is within the limits of a log with these numbers of children. Scripts are numbered 1 to 64.
abbrev pub fits : ChildNumbers → HallEvent → Bool
fits nums (hall.Child s c m w) =
    nat_le 1 s && nat_le s 64 && nat_le (least_child nums) c && nat_le c (most_child nums) && nat_le m 9000000000000000 && nat_le (piece_len w) 4096
fits nums (hall.Tick m) = nat_le m 9000000000000000

abbrev pub AllFit : ChildNumbers → List HallEvent → Type 0
AllFit nums es = AllByRecursion (λ e. IsTrue (fits nums e)) es

-- Events are written in version 2 if it allows them, otherwise in version 3.
abbrev pub numbers_of : List HallEvent → ChildNumbers
numbers_of es = if list_all (fits To16) es then To16 else To999

-- A piece consists of bytes, and an exit status is one byte.
abbrev pub HoldsBytes : What → Type 0
HoldsBytes (what.Out piece) = IsBytes piece
HoldsBytes what.Eof = Unit {0}
HoldsBytes (what.ReadFail c) = Unit {0}
HoldsBytes (what.Answer answer.Ok) = Unit {0}
HoldsBytes (what.Answer (answer.Fail c)) = Unit {0}
HoldsBytes (what.Answer (answer.Exit n)) = n < 256
HoldsBytes (what.Answer answer.Killed) = Unit {0}

abbrev pub IsOfBytes : HallEvent → Type 0
IsOfBytes (hall.Child s c m w) = HoldsBytes w
IsOfBytes (hall.Tick m) = Unit {0}

-- The events are within the limits and consist of bytes.
abbrev pub AreLogged : ChildNumbers → List HallEvent → Type 0
AreLogged nums es = AllFit nums es × AllByRecursion IsOfBytes es

-- The bytes are the log of these events in version 1.
abbrev pub PlainLog : List ℕ → List HallEvent → Type 0
PlainLog bytes es = (bytes ≡ lines_text es) × AreLogged To16 es

-- The bytes are the log of these events in version 2 or 3.
abbrev pub CountedLog : ChildNumbers → List ℕ → List HallEvent → Type 0
CountedLog nums bytes es = (bytes ≡ counted_text nums es) × AreLogged nums es

-- The bytes are a log of these events, in any version. A number in a log has at most sixteen digits, so the total does
-- too.
abbrev pub LogText : List ℕ → List HallEvent → Type 0
LogText bytes es = PlainLog bytes es ⊎ ((nums : ChildNumbers) × CountedLog nums bytes es × (length es < 10 ^ 16))
