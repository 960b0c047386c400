-- The content of a timeline's line, or its error: the first one from the left.
use Rattle.std.specs.Prelude.{◌≡◌, ◌≢◌, ℕ, nat_le, option_map, List, [], ◌∷◌, codes, Bool, true, ◌&&◌, ◌||◌, ◌==◌, if◌then◌else◌, Option, Some, None, Result, Ok, Err}
use Rattle.std.specs.Str.{bytes_eq}
use Rattle.child_events.specs.declared.event.Answer.{Answer}
use Rattle.child_events.specs.declared.event.Answer.TheVariants as answer
use Rattle.child_events.specs.declared.event.What.{What}
use Rattle.child_events.specs.declared.event.What.TheVariants as what
use Rattle.child_events.specs.Reading.{number_of, cause_of}
use Rattle.child_timeline.specs.declared.fault.TimelineFault.{TimelineFault}
use Rattle.child_timeline.specs.declared.fault.TimelineFault.TheVariants as fault
use Rattle.child_timeline.specs.declared.quoted.QuoteState.TheVariants.{Plain}
use Rattle.child_timeline.specs.declared.line.When.{When}
use Rattle.child_timeline.specs.declared.line.When.TheVariants.{At, After}
use Rattle.child_timeline.specs.declared.line.TimelineLine.{TimelineLine}
use Rattle.child_timeline.specs.declared.line.TimelineLine.TheVariants as line
use Rattle.tcl_words.specs.Bytes as ascii
use Rattle.child_timeline.specs.Words.{after_blanks, first_word, behind_word}
use Rattle.child_timeline.specs.Quoted.{text_from}

-- Reads one part and then the next. The first error ends the reading.
infixl 10 ◌>>=◌
abbrev pub ◌>>=◌ : {A B : Type 0} → Result A TimelineFault → (A → Result B TimelineFault) → Result B TimelineFault
Ok x >>= f = f x
Err e >>= f = Err e

abbrev pub or_fault : {A : Type 0} → TimelineFault → Option A → Result A TimelineFault
or_fault f None = Err f
or_fault f (Some x) = Ok x

-- No words may follow.
abbrev pub alone : {A : Type 0} → ℕ → A → List ℕ → Result A TimelineFault
alone n x [] = Ok x
alone n x (b ∷ bs) = Err (fault.Shape n)

-- A moment, or with a plus sign the time since the previous line, in milliseconds.
abbrev pub when_of : List ℕ → Option When
when_of [] = None
when_of (b ∷ bs) = if b == ascii.plus then option_map After (number_of bs) else option_map At (number_of (b ∷ bs))

abbrev pub is_child : ℕ → Bool
is_child c = nat_le 1 c && nat_le c 16

abbrev pub child_number : ℕ → Option ℕ → Result ℕ TimelineFault
child_number n None = Err (fault.Child n)
child_number n (Some c) = if is_child c then Ok c else Err (fault.Child n)

-- The child that the first two words name, or child 1.
abbrev pub child_in : ℕ → List ℕ → Result ℕ TimelineFault
child_in n t = if bytes_eq (first_word t) (codes "child") then child_number n (number_of (first_word (behind_word t))) else Ok 1

-- The words after those that name a child.
abbrev pub behind_child : List ℕ → List ℕ
behind_child t = if bytes_eq (first_word t) (codes "child") then behind_word (behind_word t) else t

abbrev pub status_number : ℕ → Option ℕ → Result Answer TimelineFault
status_number n None = Err (fault.Status n)
status_number n (Some s) = if nat_le s 255 then Ok (answer.Exit s) else Err (fault.Status n)

-- How a child ends: an exit status, or `killed`.
abbrev pub status_of : ℕ → List ℕ → Result Answer TimelineFault
status_of n w = if bytes_eq w (codes "killed") then Ok answer.Killed else status_number n (number_of w)

abbrev pub text_of : ℕ → List ℕ → Result What TimelineFault
text_of n bs = or_fault (fault.Text n) (text_from Plain bs) >>= λ t. Ok (what.Out t)

-- The end of an output, or a read failure.
abbrev pub ending_of : ℕ → List ℕ → List ℕ → Result What TimelineFault
ending_of n w t =
    if bytes_eq w (codes "end") then alone n what.Eof t
    else if bytes_eq w (codes "fail") then (or_fault (fault.Cause n) (cause_of (first_word t)) >>= λ c. alone n (what.ReadFail c) (behind_word t))
    else Err (fault.Shape n)

-- The content of a child's event.
abbrev pub what_of : ℕ → List ℕ → Result What TimelineFault
what_of n [] = Err (fault.Shape n)
what_of n (b ∷ bs) = if b == ascii.quote then text_of n bs else ending_of n (first_word (b ∷ bs)) (behind_word (b ∷ bs))

abbrev pub child_line : ℕ → When → List ℕ → Result TimelineLine TimelineFault
child_line n at t = do
  c ← child_in n t
  w ← what_of n (behind_child t)
  Ok (line.Child at c w)

-- The event of a line that begins with a moment.
abbrev pub event_line : ℕ → When → List ℕ → Result TimelineLine TimelineFault
event_line n at t = if bytes_eq (first_word t) (codes "tick") then alone n (line.Tick at) (behind_word t) else child_line n at t

abbrev pub moment_line : ℕ → List ℕ → Result TimelineLine TimelineFault
moment_line n t = or_fault (fault.Moment n) (when_of (first_word t)) >>= λ at. event_line n at (behind_word t)

abbrev pub exit_of_child : ℕ → ℕ → List ℕ → Result TimelineLine TimelineFault
exit_of_child n c t =
    if bytes_eq (first_word t) (codes "exit")
    then (status_of n (first_word (behind_word t)) >>= λ a. alone n (line.Exit (record { child = c; answer = a })) (behind_word (behind_word t)))
    else Err (fault.Shape n)

-- A line that tells how a child ends.
abbrev pub exit_line : ℕ → List ℕ → Result TimelineLine TimelineFault
exit_line n t = child_in n t >>= λ c. exit_of_child n c (behind_child t)

abbrev pub is_of_exit : List ℕ → Bool
is_of_exit w = bytes_eq w (codes "child") || bytes_eq w (codes "exit")

-- No words, or a comment.
abbrev pub says_nothing : List ℕ → Bool
says_nothing [] = true
says_nothing (b ∷ bs) = b == ascii.hash

abbrev pub words_line : ℕ → List ℕ → Result TimelineLine TimelineFault
words_line n t =
    if says_nothing t then Ok line.Nothing
    else if is_of_exit (first_word t) then exit_line n t
    else moment_line n t

-- The content of line n.
abbrev pub line_of : ℕ → List ℕ → Result TimelineLine TimelineFault
line_of n bytes = words_line n (after_blanks bytes)

-- The result of a reading that may also fail because memory was refused.
abbrev pub Reads : {A : Type 0} → Result A TimelineFault → Result A TimelineFault → Type 0
Reads (Ok x) meant = meant ≡ Ok x
Reads (Err f) meant = f ≢ fault.Memory → meant ≡ Err f
