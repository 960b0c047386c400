-- Backslash escapes: the bytes that one stands for, and the number of bytes after the backslash that belong to it. As in
-- Tcl(n), but `\U` is just a letter.
use Rattle.std.specs.Prelude.{ℕ, zero, suc, ◌+◌, ◌-◌, ◌*◌, ◌&&◌, ◌||◌, List, [], ◌∷◌, Option, Some, None, nat_lt, nat_le, encode_utf8, ◌==◌, if◌then◌else◌}
use Rattle.std.specs.List.{prefix_len}
use Rattle.tcl_words.specs.Bytes as ascii

-- The escapes `\a \b \f \n \r \t \v`. Any other byte stands for itself.
abbrev pub escaped : ℕ → ℕ
escaped b =
    if b == ascii.letter_a then ascii.bell
    else (if b == ascii.letter_b then ascii.backspace
    else (if b == ascii.letter_f then ascii.form_feed
    else (if b == ascii.letter_n then ascii.newline
    else (if b == ascii.letter_r then ascii.carriage_return
    else (if b == ascii.letter_t then ascii.tab
    else (if b == ascii.letter_v then ascii.vertical_tab else b))))))

-- The value of a digit in base 16.
abbrev pub hex_digit : ℕ → Option ℕ
hex_digit b =
    if nat_le ascii.digit_0 b && nat_le b ascii.digit_9 then Some (b - ascii.digit_0)
    else (if nat_le ascii.letter_a b && nat_le b ascii.letter_f then Some (b - (ascii.letter_a - 10))
    else (if nat_le ascii.capital_a b && nat_le b ascii.capital_f then Some (b - (ascii.capital_a - 10)) else None))

-- The value of a digit in a base, which is at most 16.
abbrev pub below : ℕ → Option ℕ → Option ℕ
below base None = None
below base (Some d) = if nat_lt d base then Some d else None

unfoldable pub digit : ℕ → ℕ → Option ℕ
digit base b = below base (hex_digit b)

-- The value, with a count one higher.
abbrev pub one_more : ℕ × ℕ → ℕ × ℕ
one_more p = (p.0, suc p.1)

abbrev pub digit_step : (ℕ → ℕ × ℕ) → ℕ → ℕ → ℕ → Option ℕ → ℕ × ℕ
digit_step more base top value None = (value, 0)
digit_step more base top value (Some d) = if nat_le (base * value + d) top then one_more (more (base * value + d)) else (value, 0)

-- The number after at most `most` further digits, and how many digits were read. A digit that would exceed `top` isn't
-- read.
unfoldable pub digits : ℕ → ℕ → ℕ → ℕ → List ℕ → ℕ × ℕ
digits base top zero value bytes = (value, 0)
digits base top (suc most) value [] = (value, 0)
digits base top (suc most) value (b ∷ bytes) = digit_step (λ v. digits base top most v bytes) base top value (digit base b)

-- The number of leading spaces and tabs.
unfoldable pub blanks : List ℕ → ℕ
blanks bytes = prefix_len (λ b. b == ascii.space || b == ascii.tab) bytes

-- A letter and hexadecimal digits, given their number and their count. Without digits the letter stands for itself.
abbrev pub hex_escape : ℕ → (ℕ → List ℕ) → ℕ × ℕ → List ℕ × ℕ
hex_escape letter text (value, zero) = (letter ∷ [], 1)
hex_escape letter text (value, suc n) = (text value, suc (suc n))

-- One to three octal digits, given the first one and its value. Any other byte is in the table or stands for itself.
abbrev pub octal_escape : ℕ → List ℕ → Option ℕ → List ℕ × ℕ
octal_escape b bytes None = (escaped b ∷ [], 1)
octal_escape b bytes (Some d) = ((digits 8 255 2 d bytes).0 ∷ [], suc (digits 8 255 2 d bytes).1)

-- The bytes that a backslash with these bytes after it stands for, and how many of them belong to it. `\x` stands for
-- one byte, `\u` for the UTF-8 bytes of a number, which may be a surrogate.
unfoldable pub backslash : List ℕ → List ℕ × ℕ
backslash [] = (ascii.backslash ∷ [], 0)
backslash (b ∷ bytes) =
    if b == ascii.newline then (ascii.space ∷ [], suc (blanks bytes))
    else (if b == ascii.letter_x then hex_escape ascii.letter_x (λ value. value ∷ []) (digits 16 255 2 0 bytes)
    else (if b == ascii.letter_u then hex_escape ascii.letter_u encode_utf8 (digits 16 65535 4 0 bytes)
    else octal_escape b bytes (digit 8 b)))
