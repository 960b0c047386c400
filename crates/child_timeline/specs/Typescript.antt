-- Typescripts of script(1): a line with the start time, the output, and a line with the end time. The timing file gives
-- the time of each part of the output, in the classic or the advanced format (script(1), --logging-format).
use Rattle.std.specs.Prelude.{ℕ, ◌+◌, ◌/◌, nat_le, List, [], ◌∷◌, take, drop, length, codes, Bool, true, false, not, ◌&&◌, ◌==◌, if◌then◌else◌, Result, Ok, Err}
use Rattle.std.specs.Char.{is_ascii_digit}
use Rattle.std.specs.Str.{bytes_eq}
use Rattle.child_events.specs.declared.event.What.TheVariants as what
use Rattle.child_events.specs.Reading.{number_of, parts}
use Rattle.tcl_words.specs.Bytes as ascii
use Rattle.child_timeline.specs.declared.fault.TimelineFault.{TimelineFault}
use Rattle.child_timeline.specs.declared.fault.TimelineFault.TheVariants as fault
use Rattle.child_timeline.specs.declared.line.When.TheVariants.{At, After}
use Rattle.child_timeline.specs.declared.line.TimelineLine.{TimelineLine}
use Rattle.child_timeline.specs.declared.line.TimelineLine.TheVariants as line
use Rattle.child_timeline.specs.declared.timeline.Timeline.{Timeline}
use Rattle.child_timeline.specs.declared.typescript.Tape.{Tape}
use Rattle.child_timeline.specs.Words.{after_blanks, first_word, behind_word}
use Rattle.child_timeline.specs.Line.{◌>>=◌, or_fault, status_of}
use Rattle.child_timeline.specs.Timeline.{with_line, silence}
use Rattle.child_timeline.specs.Seconds.{micros_of}
use Rattle.child_timeline.specs.Cast.{within}

abbrev pub begins_with : List ℕ → List ℕ → Bool
begins_with words bytes = bytes_eq (take (length words) bytes) words

-- The text is a typescript of script(1).
abbrev pub is_typescript : List ℕ → Bool
is_typescript text = begins_with (codes "Script started on ") text

-- The bytes after the first line.
abbrev pub behind_line : List ℕ → List ℕ
behind_line [] = []
behind_line (b ∷ bs) = if b == ascii.newline then bs else behind_line bs

abbrev pub is_empty : List ℕ → Bool
is_empty [] = true
is_empty (b ∷ bs) = false

-- The newline that script(1) writes after the output, and its last line.
abbrev pub is_end : List ℕ → Bool
is_end [] = false
is_end (b ∷ bs) = begins_with (ascii.newline ∷ codes "Script done on ") (b ∷ bs) && is_empty (behind_line bs)

-- The bytes before them.
abbrev pub before_end : List ℕ → List ℕ
before_end [] = []
before_end (b ∷ bs) = if is_end (b ∷ bs) then [] else b ∷ before_end bs

-- The output in a typescript.
abbrev pub shown : List ℕ → List ℕ
shown text = before_end (behind_line text)

-- In the advanced format, an entry begins with its kind. The classic format has no kind, and each entry is output.
abbrev pub is_kind : List ℕ → Bool
is_kind [] = false
is_kind (c ∷ []) = not (is_ascii_digit c)
is_kind (c ∷ d ∷ ds) = false

abbrev pub kind_of : List ℕ → List ℕ
kind_of t = if is_kind (first_word t) then first_word t else codes "O"

abbrev pub behind_kind : List ℕ → List ℕ
behind_kind t = if is_kind (first_word t) then behind_word t else t

-- The line that an entry stands for, and the number of bytes shown after it.
abbrev pub Said : Type 0
Said = TimelineLine × ℕ

-- An entry of output: the next `count` bytes of the text.
abbrev pub output : ℕ → ℕ → List ℕ → ℕ → ℕ → Result Said TimelineFault
output n clock body at count =
    if nat_le (at + count) (length body) then Ok (line.Child (At (clock / 1000)) 1 (what.Out (take count (drop at body))), at + count)
    else Err (fault.Event n)

-- A word of the header: the program's exit status, or another word, which is ignored.
abbrev pub header : ℕ → ℕ → List ℕ → Result Said TimelineFault
header n at words =
    if bytes_eq (first_word words) (codes "EXIT_CODE") then (status_of n (first_word (behind_word words)) >>= λ a. Ok (line.Exit (record { child = 1; answer = a }), at))
    else Ok (line.Nothing, at)

abbrev pub said_by : ℕ → ℕ → List ℕ → ℕ → List ℕ → List ℕ → Result Said TimelineFault
said_by n clock body at kind words =
    if bytes_eq kind (codes "O") then or_fault (fault.Event n) (number_of (first_word words)) >>= output n clock body at
    else if bytes_eq kind (codes "H") then header n at words
    else Ok (line.Nothing, at)

abbrev pub played : ℕ → Timeline → ℕ → Said → Result Tape TimelineFault
played n t clock s = with_line n t s.0 >>= λ u. Ok (record { timeline = u; clock = clock; at = s.1 })

-- Adds an entry. Its time counts from the previous entry.
abbrev pub with_entry : ℕ → List ℕ → Tape → List ℕ → Result Tape TimelineFault
with_entry n body p t = do
  time ← or_fault (fault.Moment n) (micros_of (first_word (behind_kind t)))
  clock ← within n (p.clock + time)
  said ← said_by n clock body p.at (kind_of t) (behind_word (behind_kind t))
  played n p.timeline clock said

abbrev pub with_words : ℕ → List ℕ → Tape → List ℕ → Result Tape TimelineFault
with_words n body p t = if is_empty t then Ok p else with_entry n body p t

-- Adds line n of a timing file.
abbrev pub with_timing : ℕ → List ℕ → Tape → List ℕ → Result Tape TimelineFault
with_timing n body p bytes = with_words n body p (after_blanks bytes)

abbrev pub with_timings : ℕ → List ℕ → Tape → List (List ℕ) → Result Tape TimelineFault
with_timings n body p [] = Ok p
with_timings n body p (w ∷ ws) = with_timing n body p w >>= λ q. with_timings (n + 1) body q ws

-- Bytes that no entry covers are shown at the end.
abbrev pub with_rest : Timeline → List ℕ → Result Timeline TimelineFault
with_rest t rest = if is_empty rest then Ok t else with_line 1 t (line.Child (After 0) 1 (what.Out rest))

-- Adds the remaining bytes and the end of the output.
abbrev pub wound_up : List ℕ → Tape → Result Timeline TimelineFault
wound_up body p = with_rest p.timeline (drop p.at body) >>= λ u. with_line 1 u (line.Child (After 0) 1 what.Eof)

-- The tape before the first entry.
abbrev pub unwound : Tape
unwound = record { timeline = silence; clock = 0; at = 0 }

-- The timeline of an output without a timing file: all at once.
abbrev pub typescript_of : List ℕ → Result Timeline TimelineFault
typescript_of text = wound_up (shown text) unwound

-- The timeline of an output with a timing file.
abbrev pub timed_by : List ℕ → List ℕ → Result Timeline TimelineFault
timed_by body timing = with_timings 1 body unwound (parts ascii.newline timing) >>= wound_up body

abbrev pub timed_typescript : List ℕ → List ℕ → Result Timeline TimelineFault
timed_typescript text timing = timed_by (shown text) timing
