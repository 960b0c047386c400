-- Values that a text contains (scan(n)).
use Rattle.std.specs.Prelude.{ℕ, ◌+◌, ◌==◌, min, nat_lt, Bool, true, false, not, ◌||◌, List, [], ◌∷◌, length, take_while, drop, count_by, Option, Some, None, option_map, Ok, Err, ℤ, pos, neg_ℤ, if◌then◌else◌}
use Rattle.std.specs.Char.{is_ascii_digit}
use Rattle.std.specs.List.{prefix_len}
use Rattle.tcl_words.specs.Bytes as ascii
use Rattle.tcl_words.specs.Lists.{is_white}
use Rattle.tcl_expr.specs.Number.{value_from, number_text}
use Rattle.tcl_subst.specs.Variables.{Variables, with_value}
use Rattle.tcl_subst.specs.Writes.{set_to}
use Rattle.tcl_formats.specs.declared.scanning.Directive.{Directive}
use Rattle.tcl_formats.specs.declared.scanning.Directive.TheVariants.{Blanks, Byte, Number, Word}
use Rattle.tcl_formats.specs.declared.scanning.Taken.{Taken}
use Rattle.tcl_formats.specs.declared.scanning.Taken.TheVariants.{Stopped, Passed, Dropped, Read}
use Rattle.tcl_results.specs.Given.{arg}
use Rattle.tcl_formats.specs.Parts.{parts_from}
use Rattle.tcl_results.specs.Said.{Said, ◌>>=◌, Outcome, told, on_said, on_changed}
use Rattle.tcl_results.specs.Values.{count_text}
use Rattle.tcl_formats.specs.Templates.{or_bad_format}
use Rattle.tcl_results.specs.Texts.{wrong_args, not_set}

-- The template: white space, conversions and other bytes.

-- `%d` or `%s`, and whether its value goes to a name.
abbrev pub conversion_of : Bool → ℕ → Option Directive
conversion_of named b = if b == ascii.letter_d then Some (Number named) else if b == ascii.letter_s then Some (Word named) else None

-- After `%*`.
abbrev pub starred_at : List ℕ → Option (Directive × ℕ)
starred_at [] = None
starred_at (b ∷ text) = option_map (λ i. (i, 2)) (conversion_of false b)

-- After a `%`, with the number of bytes.
abbrev pub percent_at : List ℕ → Option (Directive × ℕ)
percent_at [] = None
percent_at (b ∷ text) = if b == ascii.star then starred_at text else option_map (λ i. (i, 1)) (conversion_of true b)

-- The directive that begins with the byte b, and how many of the bytes after b belong to it.
unfoldable pub directive_at : ℕ → List ℕ → Option (Directive × ℕ)
directive_at b text = if b == ascii.percent then percent_at text else if is_white b then Some (Blanks, 0) else Some (Byte b, 0)

abbrev pub is_named : Directive → Bool
is_named Blanks = false
is_named (Byte b) = false
is_named (Number named) = named
is_named (Word named) = named

-- Each conversion without `*` has a name.
abbrev pub matched : List ℕ → ℕ → List Directive → Said (List Directive)
matched command names is = if count_by is_named is == names then Ok is else Err (wrong_args command)

abbrev pub directives_of : List ℕ → List ℕ → ℕ → Said (List Directive)
directives_of command template names = or_bad_format template (parts_from directive_at 0 template) >>= λ is. matched command names is

-- The text.

-- The number that digits write, cut to 64 bits at either end.
unfoldable pub number_in : Bool → List ℕ → ℤ
number_in true ds = neg_ℤ (pos (min (value_from 0 ds) 9223372036854775808))
number_in false ds = pos (min (value_from 0 ds) 9223372036854775807)

-- The value of a conversion goes to a name, or is dropped.
abbrev pub read_as : Bool → ℕ → List ℕ → Taken
read_as named n value = if named then Read n value else Dropped n

abbrev pub sign_len : List ℕ → ℕ
sign_len [] = 0
sign_len (b ∷ text) = if b == ascii.plus || b == ascii.minus then 1 else 0

abbrev pub is_negative : List ℕ → Bool
is_negative [] = false
is_negative (b ∷ text) = b == ascii.minus

-- What a conversion takes of a text. n bytes were passed before.

-- Digits, at least one.
unfoldable pub digits_taken : Bool → Bool → ℕ → List ℕ → Taken
digits_taken named negative n text =
    if nat_lt 0 (prefix_len is_ascii_digit text) then read_as named (n + prefix_len is_ascii_digit text) (number_text (number_in negative (take_while is_ascii_digit text)))
    else Stopped n

-- At most one sign, and digits.
unfoldable pub number_taken : Bool → ℕ → List ℕ → Taken
number_taken named n text = digits_taken named (is_negative text) (n + sign_len text) (drop (sign_len text) text)

abbrev pub is_dark : ℕ → Bool
is_dark b = not (is_white b)

-- Bytes up to white space, at least one.
unfoldable pub word_taken : Bool → ℕ → List ℕ → Taken
word_taken named n text = if nat_lt 0 (prefix_len is_dark text) then read_as named (n + prefix_len is_dark text) (take_while is_dark text) else Stopped n

abbrev pub byte_taken : ℕ → List ℕ → Taken
byte_taken b [] = Stopped 0
byte_taken b (c ∷ text) = if c == b then Passed 1 else Stopped 0

-- What a directive takes of a text. A conversion skips white space first.
unfoldable pub directive_taken : Directive → List ℕ → Taken
directive_taken Blanks text = Passed (prefix_len is_white text)
directive_taken (Byte b) text = byte_taken b text
directive_taken (Number named) text = number_taken named (prefix_len is_white text) (drop (prefix_len is_white text) text)
directive_taken (Word named) text = word_taken named (prefix_len is_white text) (drop (prefix_len is_white text) text)

-- The number of names that are set. It is -1 if the text ended before the first conversion.
abbrev pub ended : List ℕ → Bool → ℕ → List ℕ
ended [] done n = if done then count_text n else ascii.minus ∷ ascii.digit_1 ∷ []
ended (b ∷ rest) done n = count_text n

-- What follows a directive. `done` says whether a conversion was made; n names are set.
abbrev pub on_taken : Taken → List (List ℕ) → List ℕ → Bool → ℕ → Variables → (List ℕ → Bool → ℕ → Variables → Outcome) → Outcome
on_taken (Stopped k) names text done n vars go = told (Ok (ended (drop k text) done n)) vars
on_taken (Passed k) names text done n vars go = go (drop k text) done n vars
on_taken (Dropped k) names text done n vars go = go (drop k text) true n vars
on_taken (Read k value) names text done n vars go = on_changed vars (not_set (arg n names)) (with_value (set_to value) (arg n names) vars) (go (drop k text) true (n + 1))

-- Follows directives over a text. Each value is set as soon as it is read.
abbrev pub followed : List Directive → List (List ℕ) → List ℕ → Bool → ℕ → Variables → Outcome
followed [] names text done n vars = told (Ok (count_text n)) vars
followed (i ∷ is) names text done n vars = on_taken (directive_taken i text) names text done n vars (followed is names)

-- scan string format varName ?varName ...?
abbrev pub scan : List ℕ → List (List ℕ) → Variables → Outcome
scan command args vars = on_said (directives_of command (arg 1 args) (length (drop 2 args))) vars (λ is. followed is (drop 2 args) (arg 0 args) false 0 vars)
