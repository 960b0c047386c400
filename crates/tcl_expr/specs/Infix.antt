-- The operators of expressions and their precedence, as in expr(n).
use Rattle.std.specs.Prelude.{ℕ, Bool, false, not, ◌&&◌, ◌||◌, nat_le, List, [], ◌∷◌, drop, Option, Some, None, ◌==◌, if◌then◌else◌}
use Rattle.tcl_words.specs.Bytes as ascii
use Rattle.tcl_words.specs.Lists.{begins_with}
use Rattle.tcl_expr.specs.declared.operators.Prefix.{Prefix}
use Rattle.tcl_expr.specs.declared.operators.Prefix.TheVariants.{Minus, Plus, Complement, Not}
use Rattle.tcl_expr.specs.declared.operators.Arithmetic.{Arithmetic}
use Rattle.tcl_expr.specs.declared.operators.Arithmetic.TheVariants.{Power, Multiply, Divide, Remainder, Add, Subtract, ShiftLeft, ShiftRight, BitAnd, BitXor, BitOr}
use Rattle.tcl_expr.specs.declared.operators.Comparison.{Comparison}
use Rattle.tcl_expr.specs.declared.operators.Comparison.TheVariants.{Less, Greater, AtMost, AtLeast, Equal, Unequal}
use Rattle.tcl_expr.specs.declared.operators.Eager.{Eager}
use Rattle.tcl_expr.specs.declared.operators.Eager.TheVariants as eager
use Rattle.tcl_expr.specs.declared.operators.Lazy.TheVariants.{And, Or}
use Rattle.tcl_expr.specs.declared.operators.Infix.{Infix}
use Rattle.tcl_expr.specs.declared.operators.Infix.TheVariants as between

abbrev letter_i : ℕ
letter_i = 105

abbrev pub is_letter : ℕ → Bool
is_letter b = nat_le ascii.letter_a b && nat_le b ascii.letter_z || nat_le ascii.capital_a b && nat_le b ascii.capital_z

abbrev pub begins_letter : List ℕ → Bool
begins_letter [] = false
begins_letter (b ∷ bytes) = is_letter b

abbrev pub arithmetic : Arithmetic → Infix
arithmetic op = between.Eager (eager.Arithmetic op)

abbrev pub comparison : Comparison → Infix
comparison op = between.Eager (eager.Comparison op)

-- An operator of one byte: no later bytes belong to it.
abbrev pub alone : Option Infix → Option (Infix × ℕ)
alone None = None
alone (Some op) = Some (op, 0)

-- An operator that may be followed by `=`, which makes it another operator.
abbrev pub with_equals : Option Infix → Comparison → List ℕ → Option (Infix × ℕ)
with_equals short longer bytes = if begins_with ascii.equals bytes then Some (comparison longer, 1) else alone short

-- An operator of one byte that becomes another one if it is doubled.
abbrev pub doubled : ℕ → Arithmetic → Infix → List ℕ → Option (Infix × ℕ)
doubled b short twice bytes = if begins_with b bytes then Some (twice, 1) else Some (arithmetic short, 0)

-- `<<`, or `<=`, or `<`.
abbrev pub after_less : List ℕ → Option (Infix × ℕ)
after_less bytes = if begins_with ascii.less bytes then Some (arithmetic ShiftLeft, 1) else with_equals (Some (comparison Less)) AtMost bytes

-- `>>`, or `>=`, or `>`.
abbrev pub after_greater : List ℕ → Option (Infix × ℕ)
after_greater bytes = if begins_with ascii.greater bytes then Some (arithmetic ShiftRight, 1) else with_equals (Some (comparison Greater)) AtLeast bytes

-- `eq`, `ne`, `in` and `ni`, given their second letter. No letter may follow.
abbrev pub word_operator : ℕ → Eager → List ℕ → Option (Infix × ℕ)
word_operator second op bytes =
    if not (begins_with second bytes) then None
    else (if begins_letter (drop 1 bytes) then None
    else Some (between.Eager op, 1))

-- `ni`, or `ne`.
abbrev pub after_n : List ℕ → Option (Infix × ℕ)
after_n bytes =
    if begins_with letter_i bytes then word_operator letter_i eager.NotIn bytes
    else word_operator ascii.letter_e eager.Differs bytes

-- The infix operator that begins with a byte, and the number of later bytes that belong to it.
unfoldable pub infix_at : ℕ → List ℕ → Option (Infix × ℕ)
infix_at b bytes =
    if b == ascii.star then doubled ascii.star Multiply (arithmetic Power) bytes
    else (if b == ascii.slash then Some (arithmetic Divide, 0)
    else (if b == ascii.percent then Some (arithmetic Remainder, 0)
    else (if b == ascii.plus then Some (arithmetic Add, 0)
    else (if b == ascii.minus then Some (arithmetic Subtract, 0)
    else (if b == ascii.caret then Some (arithmetic BitXor, 0)
    else (if b == ascii.less then after_less bytes
    else (if b == ascii.greater then after_greater bytes
    else (if b == ascii.equals then with_equals None Equal bytes
    else (if b == ascii.exclamation then with_equals None Unequal bytes
    else (if b == ascii.ampersand then doubled ascii.ampersand BitAnd (between.Lazy And) bytes
    else (if b == ascii.bar then doubled ascii.bar BitOr (between.Lazy Or) bytes
    else (if b == ascii.letter_e then word_operator ascii.letter_q eager.Same bytes
    else (if b == ascii.letter_n then after_n bytes
    else (if b == letter_i then word_operator ascii.letter_n eager.In bytes
    else None))))))))))))))

abbrev pub arithmetic_level : Arithmetic → ℕ
arithmetic_level Power = 1
arithmetic_level Multiply = 2
arithmetic_level Divide = 2
arithmetic_level Remainder = 2
arithmetic_level Add = 3
arithmetic_level Subtract = 3
arithmetic_level ShiftLeft = 4
arithmetic_level ShiftRight = 4
arithmetic_level BitAnd = 9
arithmetic_level BitXor = 10
arithmetic_level BitOr = 11

abbrev pub comparison_level : Comparison → ℕ
comparison_level Less = 5
comparison_level Greater = 5
comparison_level AtMost = 5
comparison_level AtLeast = 5
comparison_level Equal = 6
comparison_level Unequal = 6

-- The level of an operator. Level 1 binds tightest, level 13 loosest.
abbrev pub level_of : Infix → ℕ
level_of (between.Eager (eager.Arithmetic op)) = arithmetic_level op
level_of (between.Eager (eager.Comparison op)) = comparison_level op
level_of (between.Eager eager.Same) = 7
level_of (between.Eager eager.Differs) = 7
level_of (between.Eager eager.In) = 8
level_of (between.Eager eager.NotIn) = 8
level_of (between.Lazy And) = 12
level_of (between.Lazy Or) = 13

-- The operator, if it is one of level k.
abbrev pub of_level : ℕ → Option (Infix × ℕ) → Option (Infix × ℕ)
of_level k None = None
of_level k (Some (op, n)) = if level_of op == k then Some (op, n) else None

-- The prefix operator that a byte is.
abbrev pub prefix_at : ℕ → Option Prefix
prefix_at b =
    if b == ascii.minus then Some Minus
    else (if b == ascii.plus then Some Plus
    else (if b == ascii.tilde then Some Complement
    else (if b == ascii.exclamation then Some Not
    else None)))
