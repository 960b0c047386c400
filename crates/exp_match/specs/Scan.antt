-- Scans a regular pattern from left to right: characters and escapes, the ends of classes and counts, and the nesting
-- of groups. It accepts exactly the patterns of `Re` in `Grammar`; `pattern_rules` states this.
use Rattle.std.specs.Prelude.{ℕ, ◌+◌, ◌-◌, ◌*◌, nat_le, Bool, true, false, not, ◌&&◌, ◌||◌, ◌==◌, if◌then◌else◌, List, [], ◌∷◌, length, drop, slice_index, Option, Some, None, option_and_then, option_map, chars, codes}
use Rattle.std.specs.Char.{digit_value, is_ascii, is_ascii_alphanumeric, is_digit as is_digit_of}
use Rattle.std.specs.Str.{is_utf8}
use Rattle.tcl_words.specs.Bytes as ascii
use Rattle.tcl_words.specs.Course.{reading}
use Rattle.tcl_words.specs.Lists.{plus}
use Rattle.exp_match.specs.declared.token.Token.{Token}
use Rattle.exp_match.specs.declared.token.Token.TheVariants as token
use Rattle.exp_match.specs.declared.token.Nesting.{Nesting}

abbrev pub escape_character : ℕ
escape_character = 0x1B

abbrev pub letter_u : ℕ
letter_u = 117

-- The characters that aren't literals: `\ . + * ? ( ) | [ { ^ $`. A `{` is one only before a digit.
abbrev pub is_special : ℕ → Bool
is_special c =
    c == ascii.backslash || c == ascii.dot || c == ascii.plus || c == ascii.star || c == ascii.question || c == ascii.open_paren || c == ascii.close_paren
    || c == ascii.bar || c == ascii.open_bracket || c == ascii.open_brace || c == ascii.caret || c == ascii.dollar

-- Escapes.

-- The character that `\a` and the like stand for: BEL, ESC, FF, LF, CR, TAB and VT.
abbrev pub control : ℕ → Option ℕ
control c =
    if c == ascii.letter_a then Some ascii.bell
    else (if c == ascii.letter_e then Some escape_character
    else (if c == ascii.letter_f then Some ascii.form_feed
    else (if c == ascii.letter_n then Some ascii.newline
    else (if c == ascii.letter_r then Some ascii.carriage_return
    else (if c == ascii.letter_t then Some ascii.tab
    else (if c == ascii.letter_v then Some ascii.vertical_tab
    else None))))))

-- The characters that stand for themselves after a backslash: the ASCII ones that are no letter and no digit.
abbrev pub is_quotable : ℕ → Bool
is_quotable c = is_ascii c && not (is_ascii_alphanumeric c)

-- The character that a backslash and one character stand for.
abbrev pub quoted : ℕ → Option ℕ
quoted c = if is_quotable c then Some c else control c

-- A hexadecimal digit.
abbrev pub is_hex : ℕ → Bool
is_hex c = is_digit_of c 16

-- The number that two hexadecimal digits write.
abbrev pub pair : List ℕ → Option ℕ
pair s =
    if is_hex (slice_index s 0) && is_hex (slice_index s 1) then Some (16 * digit_value (slice_index s 0) + digit_value (slice_index s 1))
    else None

-- The numbers D800 to DFFF, which are no characters.
abbrev pub is_surrogate : ℕ → Bool
is_surrogate n = nat_le 0xD800 n && nat_le n 0xDFFF

abbrev pub unless_surrogate : ℕ → Option ℕ
unless_surrogate n = if is_surrogate n then None else Some n

-- The character that four hexadecimal digits write.
abbrev pub two_pairs : List ℕ → Option ℕ
two_pairs s = option_and_then (λ a. option_and_then (λ b. unless_surrogate (256 * a + b)) (pair (drop 2 s))) (pair s)

-- The character that an escape stands for, after its backslash, and the number of characters that write it.
unfoldable pub escaped : List ℕ → Option (ℕ × ℕ)
escaped [] = None
escaped (c ∷ s) =
    if c == ascii.letter_x then option_map (λ v. (v, 3)) (pair s)
    else (if c == letter_u then option_map (λ v. (v, 5)) (two_pairs s)
    else option_map (λ v. (v, 1)) (quoted c))

-- The letters of character sets: `d s w D S W`.
abbrev pub is_set : ℕ → Bool
is_set c = c == ascii.letter_d || c == ascii.letter_s || c == ascii.letter_w || c == ascii.capital_d || c == ascii.capital_s || c == ascii.capital_w

-- Classes.

-- The characters that make `[` in a class more than a character: `:` `.` `=`.
abbrev pub is_mark : ℕ → Bool
is_mark c = c == ascii.colon || c == ascii.dot || c == ascii.equals

-- A character of a class, before s, stands for itself: all except `\ ] -`, and `[` before `:` `.` `=`.
abbrev pub is_class_char : ℕ → List ℕ → Bool
is_class_char c s =
    not (c == ascii.backslash || c == ascii.close_bracket || c == ascii.minus || (c == ascii.open_bracket && is_mark (slice_index s 0)))

-- The character of the first item, and the number of characters that write it.
abbrev pub item : List ℕ → Option (ℕ × ℕ)
item [] = None
item (c ∷ s) =
    if c == ascii.backslash then option_map (λ p. (p.0, p.1 + 1)) (escaped s) else (if is_class_char c s then Some (c, 1) else None)

-- A `-` that isn't followed by the end of the class.
abbrev pub makes_range : List ℕ → Bool
makes_range s = slice_index s 0 == ascii.minus && not (slice_index s 1 == ascii.close_bracket)

-- A range from v to an item. The item of v has k characters.
abbrev pub range_to : ℕ → ℕ → Option (ℕ × ℕ) → Option ℕ
range_to v k None = None
range_to v k (Some p) = if nat_le v p.0 then Some (k + 1 + p.1) else None

abbrev pub member_from : List ℕ → Option (ℕ × ℕ) → Option ℕ
member_from s None = None
member_from s (Some p) = if makes_range (drop p.1 s) then range_to p.0 p.1 (item (drop (p.1 + 1) s)) else Some p.1

abbrev pub begins_set : List ℕ → Bool
begins_set s = slice_index s 0 == ascii.backslash && is_set (slice_index s 1)

abbrev pub begins_name : List ℕ → Bool
begins_name s = slice_index s 0 == ascii.open_bracket && slice_index s 1 == ascii.colon

-- The characters begin with a word.
abbrev pub begins : List ℕ → List ℕ → Bool
begins [] s = true
begins (w ∷ word) [] = false
begins (w ∷ word) (c ∷ s) = c == w && begins word s

-- A name of five letters, with its `:]`.
abbrev pub begins_with_five : List ℕ → Bool
begins_with_five s =
    begins (codes "alnum:]") s || begins (codes "alpha:]") s || begins (codes "cntrl:]") s || begins (codes "digit:]") s
    || begins (codes "lower:]") s || begins (codes "print:]") s || begins (codes "space:]") s || begins (codes "upper:]") s

-- The number of characters in a name and its `:]`.
unfoldable pub named : List ℕ → Option ℕ
named s = if begins_with_five s then Some 7 else (if begins (codes "xdigit:]") s then Some 8 else None)

-- The number of characters in the first member.
unfoldable pub member : List ℕ → Option ℕ
member s =
    if begins_set s then Some 2
    else (if begins_name s then plus 2 (named (drop 2 s))
    else member_from s (item s))

-- A member of k characters, followed by more members.
abbrev pub behind_member : (ℕ → Option ℕ) → Option ℕ → Option ℕ
behind_member on None = None
behind_member on (Some k) = plus k (on (k - 1))

-- The characters that may end a class: `]` and `-`.
abbrev pub may_end : ℕ → Bool
may_end c = c == ascii.close_bracket || c == ascii.minus

-- The end of a class: `]` or `-]`.
abbrev pub ending : ℕ → List ℕ → Option ℕ
ending c s = if c == ascii.close_bracket then Some 1 else (if slice_index s 0 == ascii.close_bracket then Some 2 else None)

abbrev pub members_step : (ℕ → Option ℕ) → ℕ → List ℕ → Option ℕ
members_step on c s = if may_end c then ending c s else behind_member on (member (c ∷ s))

-- The number of characters in members, perhaps none, and the end of a class.
unfoldable pub members : List ℕ → Option ℕ
members = reading None members_step

-- The number of characters in a class after its `[` or `[^`, with its `]`. A `]` or `-` may be the first member.
abbrev pub plain_class : List ℕ → Option ℕ
plain_class s = if may_end (slice_index s 0) then plus 1 (members (drop 1 s)) else members s

-- The number of characters in a class after its `[`, with its `]`.
unfoldable pub class : List ℕ → Option ℕ
class s = if slice_index s 0 == ascii.caret then plus 1 (plain_class (drop 1 s)) else plain_class s

-- Counts.

abbrev pub is_digit : ℕ → Bool
is_digit c = nat_le ascii.digit_0 c && nat_le c ascii.digit_9

-- A number of three digits, up to 255.
abbrev pub three_digits : ℕ → Option (ℕ × ℕ)
three_digits n = if nat_le n 255 then Some (n, 3) else None

-- The number at the front, and its number of digits. A `0` is not followed by digits.
unfoldable pub number : List ℕ → Option (ℕ × ℕ)
number s =
    if not (is_digit (slice_index s 0)) then None
    else (if slice_index s 0 == ascii.digit_0 || not (is_digit (slice_index s 1)) then Some (slice_index s 0 - ascii.digit_0, 1)
    else (if not (is_digit (slice_index s 2)) then Some (10 * (slice_index s 0 - ascii.digit_0) + (slice_index s 1 - ascii.digit_0), 2)
    else three_digits (100 * (slice_index s 0 - ascii.digit_0) + 10 * (slice_index s 1 - ascii.digit_0) + (slice_index s 2 - ascii.digit_0))))

-- The rest of a count after `{m,`: its second number and its `}`.
abbrev pub count_to : ℕ → List ℕ → Option (ℕ × ℕ) → Option ℕ
count_to m s None = None
count_to m s (Some q) = if slice_index s q.1 == ascii.close_brace && nat_le m q.0 then Some (q.1 + 1) else None

abbrev pub count_on : ℕ → List ℕ → Option ℕ
count_on m s = if slice_index s 0 == ascii.close_brace then Some 1 else count_to m s (number s)

abbrev pub count_from : List ℕ → Option (ℕ × ℕ) → Option ℕ
count_from s None = None
count_from s (Some p) =
    if slice_index s p.1 == ascii.close_brace then Some (p.1 + 1)
    else (if slice_index s p.1 == ascii.comma then plus (p.1 + 1) (count_on p.0 (drop (p.1 + 1) s))
    else None)

-- The number of characters in a count after its `{`, with its `}`.
unfoldable pub count : List ℕ → Option ℕ
count s = count_from s (number s)

-- Tokens.

-- A group opens. A `?` may follow `(` only in `(?:`.
abbrev pub opening : List ℕ → Option (Token × ℕ)
opening s =
    if slice_index s 0 == ascii.question then (if slice_index s 1 == ascii.colon then Some (token.Open, 2) else None)
    else Some (token.Open, 0)

-- An escape or a set, after its backslash.
abbrev pub escape : List ℕ → Option (Token × ℕ)
escape s = if is_set (slice_index s 0) then Some (token.Atom, 1) else option_map (λ p. (token.Atom, p.1)) (escaped s)

-- The number of characters of a repetition that has n more after its first, with a `?` that makes it lazy.
abbrev pub with_lazy : List ℕ → ℕ → ℕ
with_lazy s n = if slice_index s n == ascii.question then n + 1 else n

-- A `{` begins a count only before a digit.
abbrev pub brace : List ℕ → Option (Token × ℕ)
brace s = if is_digit (slice_index s 0) then option_map (λ n. (token.Repeat, with_lazy s n)) (count s) else Some (token.Atom, 0)

-- The token that a character begins, and the number of later characters that belong to it.
unfoldable pub token_at : ℕ → List ℕ → Option (Token × ℕ)
token_at c s =
    if c == ascii.bar || c == ascii.caret || c == ascii.dollar then Some (token.Bound, 0)
    else (if c == ascii.star || c == ascii.plus || c == ascii.question then Some (token.Repeat, with_lazy s 0)
    else (if c == ascii.open_brace then brace s
    else (if c == ascii.open_paren then opening s
    else (if c == ascii.close_paren then Some (token.Close, 0)
    else (if c == ascii.open_bracket then option_map (λ n. (token.Atom, n)) (class s)
    else (if c == ascii.backslash then escape s
    else Some (token.Atom, 0)))))))

-- The nesting after a token, or `None` if the token may not stand there.
abbrev pub behind : Nesting → Token → Option Nesting
behind n token.Bound = Some (record n { repeatable = false })
behind n token.Repeat = if n.repeatable then Some (record n { repeatable = false }) else None
behind n token.Open = if n.left == 0 then None else Some (record { opened = n.opened + 1; left = n.left - 1; repeatable = false })
behind n token.Close = if n.opened == 0 then None else Some (record { opened = n.opened - 1; left = n.left + 1; repeatable = true })
behind n token.Atom = Some (record n { repeatable = true })

abbrev pub go_on : (Nesting → Bool) → Option Nesting → Bool
go_on on None = false
go_on on (Some n) = on n

abbrev pub behind_token : (ℕ → Nesting → Bool) → Nesting → Option (Token × ℕ) → Bool
behind_token on n None = false
behind_token on n (Some t) = go_on (on t.1) (behind n t.0)

abbrev pub accepts_step : (ℕ → Nesting → Bool) → ℕ → List ℕ → Nesting → Bool
accepts_step on c s n = behind_token on n (token_at c s)

-- The rest of a pattern is accepted.
unfoldable pub accepts : List ℕ → Nesting → Bool
accepts = reading (λ n. n.opened == 0) accepts_step

-- The nesting at the start. Groups may nest 50 deep.
abbrev pub outermost : Nesting
outermost = record { opened = 0; left = 50; repeatable = false }

-- The text is a regular pattern.
unfoldable pub is_pattern : List ℕ → Bool
is_pattern text = nat_le (length text) 4096 && is_utf8 text && accepts (chars text) outermost
