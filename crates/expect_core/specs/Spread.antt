-- send -s and send -h (expect(1)): a text goes out in pieces, with a pause before each.
use Rattle.std.specs.Prelude.{ℕ, ◌+◌, ◌-◌, ◌==◌, nat_le, nat_lt, min, max, List, [], ◌∷◌, length, take, drop, slice_index_or, codes, Bool, true, false, not, ◌&&◌, ◌||◌, if◌then◌else◌, Option, Some, None, option_map, option_and_then, Ok, Err}
use Rattle.tcl_subst.specs.Variables.{Variables}
use Rattle.tcl_results.specs.Said.{Said, ◌>>=◌, list_of}
use Rattle.expect_core.specs.declared.spread.Human.{Human}
use Rattle.expect_core.specs.declared.spread.Pace.{Pace}
use Rattle.expect_core.specs.declared.spread.Pace.TheVariants.{Slow, Human as AsHuman}
use Rattle.expect_core.specs.declared.spread.Spread.{Spread}
use Rattle.expect_core.specs.declared.turn.Next.{Next}
use Rattle.expect_core.specs.declared.turn.Next.TheVariants.{Finish, Send as SendText, Pause}
use Rattle.expect_core.specs.Scoped.{needed}
use Rattle.expect_core.specs.Sleeping.{digits, signed, until, kept}
use Rattle.expect_core.specs.Turns.{done}

-- The variables send_slow and send_human.

-- A time in seconds, in milliseconds.
abbrev pub time_of : List ℕ → Option ℕ
time_of text = option_map kept (signed text)

-- send_slow: the number of bytes of a piece, and the time between two pieces.
abbrev pub slow_by : List (List ℕ) → Option Pace
slow_by (count ∷ time ∷ []) =
    option_and_then (λ n. option_and_then (λ t. if n == 0 then None else Some (Slow n t)) (time_of time)) (option_map kept (digits count))
slow_by other = None

-- send_human: the times before a byte and after a word, how they vary, the shortest and the longest time. The third
-- counts for nothing, since expect(1) draws it at random.
abbrev pub human_by : List (List ℕ) → Option Pace
human_by (inside ∷ ending ∷ vary ∷ least ∷ most ∷ []) =
    option_and_then (λ i. option_and_then (λ e. option_and_then (λ v. option_and_then (λ l. option_and_then (λ m.
    Some (AsHuman (record { inside = i; ending = e; least = l; most = m })))
    (time_of most)) (time_of least)) (time_of vary)) (time_of ending)) (time_of inside)
human_by other = None

-- The elements of a variable's value.
abbrev pub elements_in : List ℕ → Variables → Said (List (List ℕ))
elements_in name vars = needed name vars >>= list_of

abbrev pub or_bad : List ℕ → Option Pace → Said Pace
or_bad text None = Err text
or_bad text (Some pace) = Ok pace

-- The pace that these elements set. Without a list it is the same error.
abbrev pub pace_by : List ℕ → (List (List ℕ) → Option Pace) → Said (List (List ℕ)) → Said Pace
pace_by text read (Ok words) = or_bad text (read words)
pace_by text read (Err other) = Err text

-- The pace of -h or of -s.
abbrev pub pace_of : Bool → Variables → Said Pace
pace_of true vars = pace_by (codes "bad send_human") human_by (elements_in (codes "send_human") vars)
pace_of false vars = pace_by (codes "bad send_slow") slow_by (elements_in (codes "send_slow") vars)

-- The last of -h and -s counts.
abbrev pub pace_if : Option Bool → Variables → Said (Option Pace)
pace_if None vars = Ok None
pace_if (Some human) vars = pace_of human vars >>= λ pace. Ok (Some pace)

-- The pieces.

-- A letter or a digit.
abbrev pub is_letter : ℕ → Bool
is_letter b = nat_le 48 b && nat_le b 57 || nat_le 65 b && nat_le b 90 || nat_le 97 b && nat_le b 122

-- The byte at an index is the first one after a word.
abbrev pub ends_word : ℕ → List ℕ → Bool
ends_word at text = is_letter (slice_index_or text (at - 1) 0) && not (is_letter (slice_index_or text at 0))

-- The time before the byte at an index.
abbrev pub typing : Human → ℕ → List ℕ → ℕ
typing h at text = min h.most (max h.least (if ends_word at text then h.ending else h.inside))

abbrev pub pause_by : Pace → ℕ → List ℕ → ℕ
pause_by (Slow n t) at text = if at == 0 then 0 else t
pause_by (AsHuman h) at text = typing h at text

-- The pause before the next piece.
abbrev pub pause_of : Spread → ℕ
pause_of s = pause_by s.pace s.at s.text

abbrev pub size_of : Pace → ℕ
size_of (Slow n t) = n
size_of (AsHuman h) = 1

-- The next piece.
abbrev pub piece_of : Spread → List ℕ
piece_of s = take (size_of s.pace) (drop s.at s.text)

-- What is left after it.
abbrev pub behind_piece : Spread → Spread
behind_piece s = record s { at = min (length s.text) (s.at + size_of s.pace) }

-- The next piece goes out.
abbrev pub sent_on : Spread → Next
sent_on s = SendText (piece_of s) (Some (behind_piece s))

abbrev pub after_pause : ℕ → ℕ → Spread → Next
after_pause clock pause s = if pause == 0 then sent_on s else Pause (until clock pause) s

-- The next piece goes out after its pause. Without one the command ends.
abbrev pub going_on : ℕ → Option Spread → Next
going_on clock None = Finish (done [])
going_on clock (Some s) = if nat_lt s.at (length s.text) then after_pause clock (pause_of s) s else Finish (done [])

-- A text goes out at once, or at a pace.
abbrev pub beginning : ℕ → List ℕ → Option Pace → Next
beginning clock text None = SendText text None
beginning clock text (Some pace) = going_on clock (Some (record { text = text; at = 0; pace = pace }))
