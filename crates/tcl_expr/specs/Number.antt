-- Numbers as text: an optional minus and digits without a leading zero, within 64 bits. `-0` is no number, by a rule of
-- this language.
use Rattle.std.specs.Prelude.{ℕ, ◌+◌, ◌*◌, ◌-◌, nat_le, nat_lt, ◌==◌, List, [], ◌∷◌, length, Bool, false, not, ◌&&◌, ◌||◌, if◌then◌else◌, Option, Some, None, ℤ, pos, negsuc}
use Rattle.std.specs.List.{list_all}
use Rattle.std.specs.Fmt.{signed_decimal}
use Rattle.tcl_words.specs.Bytes as ascii
use Rattle.tcl_words.specs.Backslash.{digit}

abbrev pub is_digit : ℕ → Bool
is_digit b = nat_le ascii.digit_0 b && nat_le b ascii.digit_9

-- The number n, followed by these digits.
abbrev pub value_from : ℕ → List ℕ → ℕ
value_from n [] = n
value_from n (b ∷ bs) = value_from (n * 10 + (b - ascii.digit_0)) bs

-- The value of the bytes if each of them is a digit.
abbrev pub digits_value : List ℕ → Option ℕ
digits_value ds = if list_all is_digit ds then Some (value_from 0 ds) else None

abbrev pub begins_with_zero : List ℕ → Bool
begins_with_zero [] = false
begins_with_zero (b ∷ bs) = b == ascii.digit_0

-- 1 to 19 digits without a leading zero.
abbrev pub is_numeral : List ℕ → Bool
is_numeral ds = nat_lt 0 (length ds) && nat_le (length ds) 19 && list_all is_digit ds && (length ds == 1 || not (begins_with_zero ds))

-- The value of a numeral that is at most `most`.
abbrev pub numeral : ℕ → List ℕ → Option ℕ
numeral most ds = if is_numeral ds && nat_le (value_from 0 ds) most then Some (value_from 0 ds) else None

-- A digit after the number n, in a base. `on` continues with the number, if it is at most `most`.
abbrev pub on_digit : ℕ → ℕ → ℕ → (ℕ → Option ℕ) → Option ℕ → Option ℕ
on_digit base most n on None = None
on_digit base most n on (Some d) = if nat_le (base * n + d) most then on (base * n + d) else None

-- The number n, followed by these digits of a base.
abbrev pub based_from : ℕ → ℕ → ℕ → List ℕ → Option ℕ
based_from base most n [] = Some n
based_from base most n (b ∷ bs) = on_digit base most n (λ m. based_from base most m bs) (digit base b)

-- The number that one or more digits of a base write, if it is at most `most`.
abbrev pub based : ℕ → ℕ → List ℕ → Option ℕ
based base most [] = None
based base most (b ∷ bs) = based_from base most 0 (b ∷ bs)

-- After a minus, a zero is no number.
abbrev pub negative : Option ℕ → Option ℤ
negative None = None
negative (Some n) = if n == 0 then None else Some (negsuc (n - 1))

abbrev pub positive : Option ℕ → Option ℤ
positive None = None
positive (Some n) = Some (pos n)

-- The number that a text is, or `None`.
unfoldable pub number_of : List ℕ → Option ℤ
number_of [] = None
number_of (b ∷ bs) =
    if b == ascii.minus then negative (numeral 9223372036854775808 bs)
    else positive (numeral 9223372036854775807 (b ∷ bs))

-- The text of a number: decimal digits, with a minus before them if it is negative.
abbrev pub number_text : ℤ → List ℕ
number_text = signed_decimal
