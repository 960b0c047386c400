-- Texts made from a template and values (format(n)).
use Rattle.std.specs.Prelude.{ℕ, ◌+◌, ◌-◌, min, nat_lt, Bool, true, false, ◌&&◌, ◌||◌, List, [], ◌∷◌, ◌++◌, length, take, drop, replicate, flat_map, Option, Some, None, unwrap_or, Ok, Err, ℤ, pos, negsuc, unsigned_abs, encode_utf8, if◌then◌else◌}
use Rattle.std.specs.Fmt.{decimal, digits}
use Rattle.std.specs.Int.{w64, cast_unsigned, is_negative}
use Rattle.std.specs.List.{list_any}
use Rattle.tcl_words.specs.Bytes as ascii
use Rattle.tcl_subst.specs.Faults.{is_too_long}
use Rattle.tcl_formats.specs.declared.templates.Conversion.{Conversion}
use Rattle.tcl_formats.specs.declared.templates.Conversion.TheVariants.{Bytes, Character, Decimal, Unsigned, Octal, LowerHex, UpperHex}
use Rattle.tcl_formats.specs.declared.templates.Spec.{Spec}
use Rattle.tcl_formats.specs.declared.templates.Piece.{Piece}
use Rattle.tcl_formats.specs.declared.templates.Piece.TheVariants.{Plain, Converted}
use Rattle.tcl_formats.specs.declared.fields.Field.{Field}
use Rattle.tcl_results.specs.Given.{arg}
use Rattle.tcl_results.specs.Said.{Said, ◌>>=◌, limited, as_number}
use Rattle.tcl_formats.specs.Templates.{parsed}
use Rattle.tcl_results.specs.Texts.{too_long, wrong_args}

abbrev pub sign : Bool → List ℕ
sign true = ascii.minus ∷ []
sign false = []

-- Spaces, a minus, zeros, the value and spaces.
abbrev pub field_text : Field → List ℕ
field_text f = replicate f.before ascii.space ++ (sign f.negative ++ (replicate f.zeros ascii.digit_0 ++ (f.body ++ replicate f.after ascii.space)))

-- The UTF-8 of the character with this number. A number below 0 or above FFFF counts as FFFD.
abbrev pub character : ℤ → List ℕ
character (pos n) = if nat_lt n 65536 then encode_utf8 n else encode_utf8 65533
character (negsuc n) = encode_utf8 65533

-- What a conversion makes of a number, without its sign. All but `%d` take the number modulo 2^64.
unfoldable pub numeral : Conversion → ℤ → List ℕ
numeral Bytes z = []
numeral Character z = character z
numeral Decimal z = decimal (unsigned_abs z)
numeral Unsigned z = decimal (cast_unsigned w64 z)
numeral Octal z = digits 8 false (cast_unsigned w64 z)
numeral LowerHex z = digits 16 false (cast_unsigned w64 z)
numeral UpperHex z = digits 16 true (cast_unsigned w64 z)

-- Only `%d` has a sign.
abbrev pub has_sign : Conversion → ℤ → Bool
has_sign Decimal z = is_negative z
has_sign other z = false

abbrev pub is_bytes : Conversion → Bool
is_bytes Bytes = true
is_bytes other = false

abbrev pub is_text : Conversion → Bool
is_text Bytes = true
is_text Character = true
is_text other = false

-- The zeros that bring digits to the precision.
unfoldable pub leading_zeros : Spec → List ℕ → ℕ
leading_zeros s body = if is_text s.conversion then 0 else unwrap_or s.precision 0 - length body

-- How many bytes the field is short of its width.
unfoldable pub fill : Spec → Bool → ℕ → List ℕ → ℕ
fill s negative zeros body = unwrap_or s.width 0 - length (sign negative) - zeros - length body

-- Zeros fill the field: with `0`, unless a precision says how many digits there are.
abbrev pub has_zeros : Option ℕ → Spec → Bool
has_zeros None s = s.zero_filled
has_zeros (Some n) s = s.zero_filled && is_text s.conversion

-- A field is filled with n bytes: spaces after the value, zeros, or spaces before it.
abbrev pub filled : Spec → ℕ → Bool → ℕ → List ℕ → Field
filled s n negative zeros body =
    if s.left then record { before = 0; negative = negative; zeros = zeros; body = body; after = n }
    else if has_zeros s.precision s then record { before = 0; negative = negative; zeros = zeros + n; body = body; after = 0 }
    else record { before = n; negative = negative; zeros = zeros; body = body; after = 0 }

-- A field, brought to its width.
unfoldable pub field_with : Spec → Bool → List ℕ → Field
field_with s negative body = filled s (fill s negative (leading_zeros s body) body) negative (leading_zeros s body) body

-- The first bytes of a value, as many as the precision says.
abbrev pub cut : Option ℕ → List ℕ → List ℕ
cut None value = value
cut (Some n) value = take n value

unfoldable pub field_of : Spec → List ℕ → Said Field
field_of s value =
    if is_bytes s.conversion then Ok (field_with s false (cut s.precision value))
    else as_number value >>= λ z. Ok (field_with s (has_sign s.conversion z) (numeral s.conversion z))

abbrev pub first_value : List ℕ → List (List ℕ) → Said (List ℕ)
first_value command [] = Err (wrong_args command)
first_value command (v ∷ vs) = Ok v

-- A specifier whose width is this number. A negative one means `-`.
abbrev pub with_width : Spec → ℤ → Spec
with_width s z = record s { left = s.left || is_negative z; width = Some (min (unsigned_abs z) 1048577) }

abbrev pub first_number : List ℕ → List (List ℕ) → Said ℤ
first_number command values = first_value command values >>= λ v. as_number v

-- A specifier with the width that is a value, and how many values that takes.
abbrev pub starred_by : Option ℕ → List ℕ → Spec → List (List ℕ) → Said (Spec × ℕ)
starred_by (Some w) command s values = Ok (s, 0)
starred_by None command s values = first_number command values >>= λ z. Ok (with_width s z, 1)

abbrev pub starred : List ℕ → Spec → List (List ℕ) → Said (Spec × ℕ)
starred command s values = starred_by s.width command s values

abbrev pub first_field : List ℕ → Spec → List (List ℕ) → Said Field
first_field command s values = first_value command values >>= λ v. field_of s v

-- The field of a specifier, and how many values it takes.
unfoldable pub converted : List ℕ → Spec → List (List ℕ) → Said (Field × ℕ)
converted command s values = starred command s values >>= λ t. first_field command t.0 (drop t.1 values) >>= λ f. Ok (f, t.1 + 1)

abbrev pub plain_field : List ℕ → Field
plain_field text = record { before = 0; negative = false; zeros = 0; body = text; after = 0 }

unfoldable pub piece_field : List ℕ → Piece → List (List ℕ) → Said (Field × ℕ)
piece_field command (Plain text) values = Ok (plain_field text, 0)
piece_field command (Converted s) values = converted command s values

-- The fields of the pieces of a template. Values are taken from left to right.
abbrev pub all_fields : List ℕ → List Piece → List (List ℕ) → Said (List Field)
all_fields command [] values = Ok []
all_fields command (p ∷ ps) values = piece_field command p values >>= λ t. all_fields command ps (drop t.1 values) >>= λ fs. Ok (t.0 ∷ fs)

-- The precision is above the limit of values.
abbrev pub is_wide : Piece → Bool
is_wide (Plain text) = false
is_wide (Converted s) = is_too_long (unwrap_or s.precision 0)

abbrev pub formatted : List Piece → List Field → Said (List ℕ)
formatted ps fs = if list_any is_wide ps then Err too_long else limited (flat_map field_text fs)

-- format formatString ?arg arg ...?
abbrev pub format : List ℕ → List (List ℕ) → Said (List ℕ)
format command args = parsed (arg 0 args) >>= λ ps. all_fields command ps (drop 1 args) >>= λ fs. formatted ps fs
