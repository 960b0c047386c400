-- Reads a text between quotes: the bytes that it stands for.
use Rattle.std.specs.Prelude.{ℕ, ◌+◌, ◌-◌, ◌*◌, ◌<◌, nat_le, List, [], ◌∷◌, ◌==◌, ◌&&◌, if◌then◌else◌, Option, Some, None, option_map}
use Rattle.child_timeline.specs.declared.quoted.QuoteState.{QuoteState}
use Rattle.child_timeline.specs.declared.quoted.QuoteState.TheVariants.{Plain, Escape, High, Low, Closed}
use Rattle.tcl_words.specs.Bytes as ascii
use Rattle.child_timeline.specs.Words.{is_blank}

-- The byte that an escape stands for: a backslash and this byte.
abbrev pub escaped : ℕ → Option ℕ
escaped b =
    if b == ascii.quote then Some ascii.quote
    else if b == ascii.backslash then Some ascii.backslash
    else if b == ascii.letter_n then Some ascii.newline
    else if b == ascii.letter_r then Some ascii.carriage_return
    else if b == ascii.letter_t then Some ascii.tab
    else None

-- The value of a hexadecimal digit, in lower or upper case.
abbrev pub hex_digit : ℕ → Option ℕ
hex_digit b =
    if nat_le ascii.digit_0 b && nat_le b ascii.digit_9 then Some (b - ascii.digit_0)
    else if nat_le ascii.letter_a b && nat_le b ascii.letter_f then Some (b - ascii.letter_a + 10)
    else if nat_le ascii.capital_a b && nat_le b ascii.capital_f then Some (b - ascii.capital_a + 10)
    else None

-- The byte that is read, or `None`, and the state after it.
abbrev pub Step : Type 0
Step = Option ℕ × QuoteState

abbrev pub plain_byte : ℕ → Step
plain_byte b = (Some b, Plain)

-- Reads one byte in a state. A quote ends the text, and only blanks may follow it.
abbrev pub step : QuoteState → ℕ → Option Step
step Plain b =
    if b == ascii.quote then Some (None, Closed)
    else if b == ascii.backslash then Some (None, Escape)
    else Some (plain_byte b)
step Escape b = if b == ascii.letter_x then Some (None, High) else option_map plain_byte (escaped b)
step High b = option_map (λ h. (None, Low h)) (hex_digit b)
step (Low h) b = option_map (λ l. plain_byte (16 * h + l)) (hex_digit b)
step Closed b = if is_blank b then Some (None, Closed) else None

abbrev pub in_front : Option ℕ → List ℕ → List ℕ
in_front None bs = bs
in_front (Some b) bs = b ∷ bs

-- The text is complete once its closing quote was read.
abbrev pub at_end : QuoteState → Option (List ℕ)
at_end Plain = None
at_end Escape = None
at_end High = None
at_end (Low h) = None
at_end Closed = Some []

abbrev pub behind : Option Step → (QuoteState → Option (List ℕ)) → Option (List ℕ)
behind None more = None
behind (Some s) more = option_map (in_front s.0) (more s.1)

-- The bytes that a text stands for, from this state on. `None` if it is malformed.
abbrev pub text_from : QuoteState → List ℕ → Option (List ℕ)
text_from p [] = at_end p
text_from p (b ∷ bs) = behind (step p b) (λ q. text_from q bs)

-- The first digit in a state is a hexadecimal digit's value.
abbrev pub IsQuoteState : QuoteState → Type 0
IsQuoteState Plain = Unit {0}
IsQuoteState Escape = Unit {0}
IsQuoteState High = Unit {0}
IsQuoteState (Low h) = h < 16
IsQuoteState Closed = Unit {0}

abbrev pub IsStep : Option Step → Type 0
IsStep None = Unit {0}
IsStep (Some s) = IsQuoteState s.1
