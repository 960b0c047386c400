-- The leaves of an expression: numbers, six words, and operands that are read like words and their parts (expr(n)). The
-- form of decimal numbers (`Number`) and the six words are rules of this language.
use Rattle.std.specs.Prelude.{ℕ, Bool, false, ◌&&◌, ◌||◌, ◌+◌, is_some, List, [], ◌∷◌, take, drop, Option, Some, None, Result, Ok, Err, ℤ, pos, negsuc, ◌==◌, if◌then◌else◌}
use Rattle.std.specs.List.{prefix_len}
use Rattle.tcl_words.specs.Bytes as ascii
use Rattle.tcl_words.specs.Operands.{Operand, operand as operand_read}
use Rattle.tcl_expr.specs.declared.faults.ExprFault.{ExprFault}
use Rattle.tcl_expr.specs.declared.faults.ExprFault.TheVariants.{Syntax}
use Rattle.tcl_expr.specs.declared.bareword.Bareword.{Bareword}
use Rattle.tcl_words.specs.Backslash.{digit}
use Rattle.tcl_expr.specs.Number.{is_digit, numeral, based}
use Rattle.tcl_expr.specs.Truth.{word_of}
use Rattle.tcl_expr.specs.White.{gap}
use Rattle.tcl_expr.specs.Infix.{is_letter}
use Rattle.tcl_expr.specs.Tree.{Tree, number, word, operand}

-- A tree and the number of bytes it took, or the first error.
abbrev pub Read : Type 0
Read = Result (Tree × ℕ) ExprFault

-- A tree of n bytes, with the white space after it.
abbrev pub spaced : List ℕ → Tree → ℕ → Read
spaced text t n = Ok (t, gap text n)

abbrev pub begins_digit : List ℕ → Bool
begins_digit [] = false
begins_digit (b ∷ bytes) = is_digit b

unfoldable pub digits_len : List ℕ → ℕ
digits_len text = prefix_len is_digit text

unfoldable pub letters_len : List ℕ → ℕ
letters_len text = prefix_len is_letter text

abbrev pub number_leaf : List ℕ → ℕ → Option ℕ → Read
number_leaf text n None = Err Syntax
number_leaf text n (Some v) = spaced text (number (pos v)) n

-- The greatest number that an expression can write.
abbrev pub greatest : ℕ
greatest = 9223372036854775807

-- The number of leading digits of a base.
unfoldable pub based_len : ℕ → List ℕ → ℕ
based_len base text = prefix_len (λ b. is_some (digit base b)) text

-- A hexadecimal number begins with `0x` or `0X`.
abbrev pub begins_hex : List ℕ → Bool
begins_hex [] = false
begins_hex (b ∷ []) = false
begins_hex (b ∷ x ∷ bytes) = b == ascii.digit_0 && (x == ascii.letter_x || x == ascii.capital_x)

-- An octal number begins with a zero and another octal digit.
abbrev pub begins_octal : List ℕ → Bool
begins_octal [] = false
begins_octal (b ∷ []) = false
begins_octal (b ∷ d ∷ bytes) = b == ascii.digit_0 && is_some (digit 8 d)

-- A number's length in bytes, and its value. `None` if it has none, or one that is too great.

unfoldable pub hex_literal : List ℕ → ℕ × Option ℕ
hex_literal text = (2 + based_len 16 (drop 2 text), based 16 greatest (take (based_len 16 (drop 2 text)) (drop 2 text)))

unfoldable pub octal_literal : List ℕ → ℕ × Option ℕ
octal_literal text = (based_len 8 text, based 8 greatest (take (based_len 8 text) text))

unfoldable pub decimal_literal : List ℕ → ℕ × Option ℕ
decimal_literal text = (digits_len text, numeral greatest (take (digits_len text) text))

abbrev pub literal : List ℕ → ℕ × Option ℕ
literal text =
    if begins_hex text then hex_literal text
    else if begins_octal text then octal_literal text
    else decimal_literal text

abbrev pub word_leaf : List ℕ → ℕ → Option Bareword → Read
word_leaf text n None = Err Syntax
word_leaf text n (Some w) = spaced text (word w) n

-- A malformed word makes the expression malformed.
abbrev pub operand_leaf : List ℕ → Operand → Read
operand_leaf text (Err e) = Err Syntax
operand_leaf text (Ok None) = Err Syntax
operand_leaf text (Ok (Some (w, n))) = spaced text (operand w) n

abbrev pub leaf_at : ℕ → List ℕ → Read
leaf_at b text =
    if is_digit b then number_leaf text (literal text).0 (literal text).1
    else (if is_letter b then word_leaf text (letters_len text) (word_of (take (letters_len text) text))
    else operand_leaf text (operand_read text))

-- A number, a word or an operand.
unfoldable pub leaf : List ℕ → Read
leaf [] = Err Syntax
leaf (b ∷ bytes) = leaf_at b (b ∷ bytes)

-- 9223372036854775808 is a number only after `-`.
abbrev pub is_lowest_magnitude : Option ℕ → Bool
is_lowest_magnitude None = false
is_lowest_magnitude (Some n) = n == 9223372036854775808

-- `-9223372036854775808`: the `-` is part of the number and no operator.
unfoldable pub is_lowest : ℕ → List ℕ → Bool
is_lowest b bytes = b == ascii.minus && is_lowest_magnitude (numeral 9223372036854775808 (take (digits_len bytes) bytes))

abbrev pub lowest : ℤ
lowest = negsuc 9223372036854775807
