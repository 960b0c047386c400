-- The template of `format` (format(n)): bytes, `%%`, and conversion specifiers.
use Rattle.std.specs.Prelude.{ℕ, ◌+◌, ◌==◌, min, Bool, not, ◌||◌, List, [], ◌∷◌, take_while, drop, Option, Some, None, option_map, Ok, Err, if◌then◌else◌}
use Rattle.std.specs.Char.{is_ascii_digit}
use Rattle.std.specs.List.{prefix_len}
use Rattle.tcl_words.specs.Bytes as ascii
use Rattle.tcl_expr.specs.Number.{value_from}
use Rattle.tcl_formats.specs.declared.templates.Conversion.{Conversion}
use Rattle.tcl_formats.specs.declared.templates.Conversion.TheVariants.{Bytes, Character, Decimal, Unsigned, Octal, LowerHex, UpperHex}
use Rattle.tcl_formats.specs.declared.templates.Spec.{Spec}
use Rattle.tcl_formats.specs.declared.templates.Piece.{Piece}
use Rattle.tcl_formats.specs.declared.templates.Piece.TheVariants.{Plain, Converted}
use Rattle.tcl_formats.specs.Parts.{parts_from}
use Rattle.tcl_results.specs.Said.{Said}
use Rattle.tcl_results.specs.Sets.{is_one_of}
use Rattle.tcl_results.specs.Texts.{bad_format}

abbrev pub is_flag : ℕ → Bool
is_flag b = b == ascii.minus || b == ascii.digit_0

abbrev pub is_plain : ℕ → Bool
is_plain b = not (b == ascii.percent)

-- The number that the first digits of a text write, and how many digits there are. A number above the limit of values
-- counts as one more than the limit.
abbrev pub size_at : List ℕ → ℕ × ℕ
size_at text = (min (value_from 0 (take_while is_ascii_digit text)) 1048577, prefix_len is_ascii_digit text)

-- What stands at the front of a text, and how many bytes write it.

-- A width, or `*`, which is `None`. Without digits it is 0.
abbrev pub width_at : List ℕ → Option ℕ × ℕ
width_at [] = (Some 0, 0)
width_at (b ∷ text) = if b == ascii.star then (None, 1) else (Some (size_at (b ∷ text)).0, (size_at (b ∷ text)).1)

-- A precision follows a dot. Without digits it is 0.
abbrev pub precision_at : List ℕ → Option ℕ × ℕ
precision_at [] = (None, 0)
precision_at (b ∷ text) = if b == ascii.dot then (Some (size_at text).0, (size_at text).1 + 1) else (None, 0)

-- An `l` changes nothing.
abbrev pub long_at : List ℕ → ℕ
long_at [] = 0
long_at (b ∷ text) = if b == 108 then 1 else 0

-- The conversion that one of the letters `s`, `c`, `d`, `u`, `o`, `x` and `X` names.
abbrev pub conversion_of : ℕ → Option Conversion
conversion_of b =
    if b == ascii.letter_s then Some Bytes
    else if b == 99 then Some Character
    else if b == ascii.letter_d then Some Decimal
    else if b == ascii.letter_u then Some Unsigned
    else if b == 111 then Some Octal
    else if b == ascii.letter_x then Some LowerHex
    else if b == ascii.capital_x then Some UpperHex
    else None

abbrev pub conversion_at : List ℕ → Option Conversion
conversion_at [] = None
conversion_at (b ∷ text) = conversion_of b

abbrev pub spec_of : List ℕ → Option ℕ → Option ℕ → Conversion → Spec
spec_of flags width precision c = record { left = is_one_of flags ascii.minus; zero_filled = is_one_of flags ascii.digit_0; width = width; precision = precision; conversion = c }

-- The rest of a specifier, and how many bytes write it all. n bytes stand before this text.

unfoldable pub from_long : List ℕ → Option ℕ → Option ℕ → ℕ → List ℕ → Option (Spec × ℕ)
from_long flags width precision n text = option_map (λ c. (spec_of flags width precision c, n + long_at text + 1)) (conversion_at (drop (long_at text) text))

unfoldable pub from_precision : List ℕ → Option ℕ → ℕ → List ℕ → Option (Spec × ℕ)
from_precision flags width n text = from_long flags width (precision_at text).0 (n + (precision_at text).1) (drop (precision_at text).1 text)

unfoldable pub from_width : List ℕ → ℕ → List ℕ → Option (Spec × ℕ)
from_width flags n text = from_precision flags (width_at text).0 (n + (width_at text).1) (drop (width_at text).1 text)

-- A specifier, and how many bytes write it: ?flag ..? ?width? ?.precision? ?l? conversion
unfoldable pub spec_at : List ℕ → Option (Spec × ℕ)
spec_at text = from_width (take_while is_flag text) (prefix_len is_flag text) (drop (prefix_len is_flag text) text)

abbrev pub converted_piece : Spec × ℕ → Piece × ℕ
converted_piece s = (Converted s.0, s.1)

-- What follows a `%`.
abbrev pub percent_at : List ℕ → Option (Piece × ℕ)
percent_at [] = None
percent_at (b ∷ text) = if b == ascii.percent then Some (Plain (ascii.percent ∷ []), 1) else option_map converted_piece (spec_at (b ∷ text))

-- The piece that begins with the byte b, and how many of the bytes after b belong to it.
unfoldable pub piece_at : ℕ → List ℕ → Option (Piece × ℕ)
piece_at b text = if b == ascii.percent then percent_at text else Some (Plain (b ∷ take_while is_plain text), prefix_len is_plain text)

abbrev pub or_bad_format : {X : Type 0} → List ℕ → Option X → Said X
or_bad_format template None = Err (bad_format template)
or_bad_format template (Some x) = Ok x

-- The pieces of a template.
abbrev pub parsed : List ℕ → Said (List Piece)
parsed template = or_bad_format template (parts_from piece_at 0 template)
