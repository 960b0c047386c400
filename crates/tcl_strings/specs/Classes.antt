-- The classes of `string is` (string(n)). Characters are bytes. Bytes outside ASCII are in no class.
use Rattle.std.specs.Prelude.{ℕ, Bool, false, not, ◌&&◌, ◌||◌, ◌==◌, List, drop, codes, Option, Some, None, is_some, Ok, Err, bytes_eq, if◌then◌else◌}
use Rattle.std.specs.Char.{is_ascii, is_ascii_digit, is_ascii_uppercase, is_ascii_lowercase, is_ascii_graphic, is_ascii_alphabetic, is_ascii_control, is_ascii_alphanumeric, is_ascii_hexdigit, is_ascii_punctuation}
use Rattle.std.specs.List.{list_all}
use Rattle.tcl_words.specs.Bytes as ascii
use Rattle.tcl_words.specs.Lists.{is_white, is_empty}
use Rattle.tcl_expr.specs.Number.{number_of}
use Rattle.command_table.specs.declared.switches.Switches.TheVariants as switches
use Rattle.tcl_strings.specs.declared.classes.Class.{Class}
use Rattle.tcl_strings.specs.declared.classes.Class.TheVariants.{Alnum, Alpha, Ascii, Boolean, Control, Digit, False, Graph, Integer, Lower, Print, Punct, Space, True, Upper, Wordchar, Xdigit}
use Rattle.tcl_results.specs.Texts.{quoted}
use Rattle.tcl_results.specs.Given.{arg}
use Rattle.tcl_results.specs.Sets.{is_one_of}
use Rattle.tcl_results.specs.Switches.{flags_of}
use Rattle.tcl_results.specs.Said.{Said, ◌>>=◌}

abbrev pub letter_class : List ℕ → Option Class
letter_class word =
    if bytes_eq word (codes "alnum") then Some Alnum
    else if bytes_eq word (codes "alpha") then Some Alpha
    else if bytes_eq word (codes "digit") then Some Digit
    else if bytes_eq word (codes "lower") then Some Lower
    else if bytes_eq word (codes "upper") then Some Upper
    else if bytes_eq word (codes "wordchar") then Some Wordchar
    else if bytes_eq word (codes "xdigit") then Some Xdigit
    else None

abbrev pub sign_class : List ℕ → Option Class
sign_class word =
    if bytes_eq word (codes "ascii") then Some Ascii
    else if bytes_eq word (codes "control") then Some Control
    else if bytes_eq word (codes "graph") then Some Graph
    else if bytes_eq word (codes "print") then Some Print
    else if bytes_eq word (codes "punct") then Some Punct
    else if bytes_eq word (codes "space") then Some Space
    else None

abbrev pub value_class : List ℕ → Option Class
value_class word =
    if bytes_eq word (codes "boolean") then Some Boolean
    else if bytes_eq word (codes "false") then Some False
    else if bytes_eq word (codes "integer") then Some Integer
    else if bytes_eq word (codes "true") then Some True
    else None

abbrev pub or_class : Option Class → Option Class → Option Class
or_class None other = other
or_class (Some c) other = Some c

-- The class that a word names.
abbrev pub class_of : List ℕ → Option Class
class_of word = or_class (letter_class word) (or_class (sign_class word) (value_class word))

-- The ASCII symbols that are not in the class `punct`.
abbrev pub symbols : List ℕ
symbols = codes "$+<=>^`|~"

-- A byte is in a class of bytes.
abbrev pub has_byte : Class → ℕ → Bool
has_byte Alnum b = is_ascii_alphanumeric b
has_byte Alpha b = is_ascii_alphabetic b
has_byte Ascii b = is_ascii b
has_byte Control b = is_ascii_control b
has_byte Digit b = is_ascii_digit b
has_byte Graph b = is_ascii_graphic b
has_byte Lower b = is_ascii_lowercase b
has_byte Print b = is_ascii_graphic b || b == ascii.space
has_byte Punct b = is_ascii_punctuation b && not (is_one_of symbols b)
has_byte Space b = is_white b
has_byte Upper b = is_ascii_uppercase b
has_byte Wordchar b = is_ascii_alphanumeric b || b == ascii.underscore
has_byte Xdigit b = is_ascii_hexdigit b
has_byte Boolean b = false
has_byte False b = false
has_byte Integer b = false
has_byte True b = false

abbrev pub is_true : List ℕ → Bool
is_true text = bytes_eq text (codes "1") || bytes_eq text (codes "true") || bytes_eq text (codes "yes") || bytes_eq text (codes "on")

abbrev pub is_false : List ℕ → Bool
is_false text = bytes_eq text (codes "0") || bytes_eq text (codes "false") || bytes_eq text (codes "no") || bytes_eq text (codes "off")

-- A text that isn't empty is in a class.
abbrev pub has_text : Class → List ℕ → Bool
has_text Boolean text = is_true text || is_false text
has_text False text = is_false text
has_text Integer text = is_some (number_of text)
has_text True text = is_true text
has_text c text = list_all (has_byte c) text

-- The empty text is in every class, unless `-strict` is given.
abbrev pub is_in : Bool → Class → List ℕ → Bool
is_in strict c text = if is_empty text then not strict else has_text c text

abbrev pub bad_class : List ℕ → List ℕ
bad_class word = quoted (codes "bad class ") word

abbrev pub some_class : List ℕ → Option Class → Said Class
some_class word None = Err (bad_class word)
some_class word (Some c) = Ok c

-- string is class ?-strict? string
abbrev pub classed : List ℕ → List (List ℕ) → Said Bool
classed command args =
    flags_of switches.Strict 1 command (drop 1 args) >>= λ p. some_class (arg 0 args) (class_of (arg 0 args)) >>= λ c. Ok (is_in p.0.strict c (arg 0 (drop p.1 (drop 1 args))))
