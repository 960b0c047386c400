-- The value of an expression, by recursion on its tree, over the values of its operands in the order in which they are
-- read. Each value is a text. The rules are those of expr(n), except for the limits of 64 bits, the six words, and the
-- form of numbers in `Number`.
use Rattle.std.specs.Prelude.{ℕ, suc, ◌+◌, ◌^◌, nat_lt, Bool, true, false, not, ◌&&◌, List, [], ◌∷◌, Option, Some, None, Result, Ok, Err, ℤ, pos, negsuc, neg_ℤ, ◌+ℤ◌, ◌-ℤ◌, ◌*ℤ◌, unsigned_abs, bytes_eq, ◌==◌, if◌then◌else◌}
use Rattle.std.specs.Ordering.{int_eq, int_cmp, nat_cmp}
use Rattle.std.specs.Cmp.Lexicographic.{slice_cmp}
use Rattle.std.specs.declared.cmp.Ordering.{Ordering}
use Rattle.std.specs.declared.cmp.Ordering.TheVariants as order
use Rattle.std.specs.Int.{w64, is_negative, int_pow, int_div_euclid, int_rem_euclid, int_bit_and, int_bit_or, int_bit_xor}
use Rattle.std.specs.List.{list_any}
use Rattle.tcl_words.specs.Lists.{elements}
use Rattle.tcl_words.specs.Pieces.{Spelled}
use Rattle.tcl_expr.specs.declared.faults.ExprFault.{ExprFault}
use Rattle.tcl_expr.specs.declared.faults.ExprFault.TheVariants.{NotNumber, DivideByZero, ZeroToNegative, NegativeShift, Overflow, BadList}
use Rattle.tcl_expr.specs.declared.operators.Prefix.{Prefix}
use Rattle.tcl_expr.specs.declared.operators.Prefix.TheVariants.{Minus, Plus, Complement, Not}
use Rattle.tcl_expr.specs.declared.operators.Arithmetic.{Arithmetic}
use Rattle.tcl_expr.specs.declared.operators.Arithmetic.TheVariants.{Power, Multiply, Divide, Remainder, Add, Subtract, ShiftLeft, ShiftRight, BitAnd, BitXor, BitOr}
use Rattle.tcl_expr.specs.declared.operators.Comparison.{Comparison}
use Rattle.tcl_expr.specs.declared.operators.Comparison.TheVariants.{Less, Greater, AtMost, AtLeast, Equal, Unequal}
use Rattle.tcl_expr.specs.declared.operators.Eager.{Eager}
use Rattle.tcl_expr.specs.declared.operators.Eager.TheVariants as eager
use Rattle.tcl_expr.specs.declared.operators.Lazy.{Lazy}
use Rattle.tcl_expr.specs.declared.operators.Lazy.TheVariants.{And, Or}
use Rattle.tcl_expr.specs.Number.{number_of, number_text}
use Rattle.tcl_expr.specs.Truth.{word_text, truth_of}
use Rattle.tcl_expr.specs.Tree.{Tree, number, word, operand, unary, binary, lazy, choice}

-- ---- Numbers

-- The number fits into 64 bits.
abbrev pub is_within : ℤ → Bool
is_within (pos n) = nat_lt n (2 ^ 63)
is_within (negsuc n) = nat_lt n (2 ^ 63)

-- The number, or an error if it doesn't fit into 64 bits.
abbrev pub checked : ℤ → Result ℤ ExprFault
checked z = if is_within z then Ok z else Err Overflow

-- The quotient with a non-negative remainder lies above the exact quotient, so it is not the one rounded down.
abbrev pub is_rounded_up : ℤ → ℤ → Bool
is_rounded_up a b = is_negative b && not (int_eq (int_rem_euclid a b) (pos 0))

-- The quotient, rounded toward minus infinity.
abbrev pub floor_div : ℤ → ℤ → ℤ
floor_div a b = if is_rounded_up a b then int_div_euclid a b -ℤ pos 1 else int_div_euclid a b

-- The remainder, with the sign of the divisor.
abbrev pub floor_rem : ℤ → ℤ → ℤ
floor_rem a b = if is_rounded_up a b then int_rem_euclid a b +ℤ b else int_rem_euclid a b

abbrev pub divided : ℤ → ℤ → Result ℤ ExprFault
divided a b = if int_eq b (pos 0) then Err DivideByZero else checked (floor_div a b)

abbrev pub remainder : ℤ → ℤ → Result ℤ ExprFault
remainder a b = if int_eq b (pos 0) then Err DivideByZero else Ok (floor_rem a b)

-- 1 divided by the power with exponent e, which isn't 0, rounded toward zero. 1 and -1 are their own inverses.
abbrev pub reciprocal : ℤ → ℕ → Result ℤ ExprFault
reciprocal z e =
    if int_eq z (pos 0) then Err ZeroToNegative
    else (if unsigned_abs z == 1 then checked (int_pow z e)
    else Ok (pos 0))

abbrev pub power : ℤ → ℤ → Result ℤ ExprFault
power z (pos e) = checked (int_pow z e)
power z (negsuc e) = reciprocal z (suc e)

abbrev pub shifted_left : ℤ → ℤ → Result ℤ ExprFault
shifted_left z (pos n) = checked (z *ℤ pos (2 ^ n))
shifted_left z (negsuc n) = Err NegativeShift

-- The quotient by a power of two, rounded toward minus infinity.
abbrev pub shifted_right : ℤ → ℤ → Result ℤ ExprFault
shifted_right z (pos n) = Ok (floor_div z (pos (2 ^ n)))
shifted_right z (negsuc n) = Err NegativeShift

unfoldable pub arithmetic : Arithmetic → ℤ → ℤ → Result ℤ ExprFault
arithmetic Power a b = power a b
arithmetic Multiply a b = checked (a *ℤ b)
arithmetic Divide a b = divided a b
arithmetic Remainder a b = remainder a b
arithmetic Add a b = checked (a +ℤ b)
arithmetic Subtract a b = checked (a -ℤ b)
arithmetic ShiftLeft a b = shifted_left a b
arithmetic ShiftRight a b = shifted_right a b
arithmetic BitAnd a b = Ok (int_bit_and w64 a b)
arithmetic BitXor a b = Ok (int_bit_xor w64 a b)
arithmetic BitOr a b = Ok (int_bit_or w64 a b)

abbrev pub complement : ℤ → ℤ
complement (pos n) = negsuc n
complement (negsuc n) = pos n

-- ---- Texts

abbrev pub bit : Bool → ℤ
bit true = pos 1
bit false = pos 0

abbrev pub bit_text : Bool → List ℕ
bit_text b = number_text (bit b)

-- The text of a number, or its error.
abbrev pub written : Result ℤ ExprFault → Result (List ℕ) ExprFault
written (Ok z) = Ok (number_text z)
written (Err e) = Err e

-- Applies f to the number that a text is. The error `NotNumber` if it is none.
abbrev pub on_number : List ℕ → Option ℤ → (ℤ → Result ℤ ExprFault) → Result ℤ ExprFault
on_number text None f = Err (NotNumber text)
on_number text (Some z) f = f z

-- Applies f to the truth value that a text is. The error `NotNumber` if it is none.
abbrev pub on_truth : List ℕ → Option Bool → (Bool → Result ℤ ExprFault) → Result ℤ ExprFault
on_truth text None f = Err (NotNumber text)
on_truth text (Some b) f = f b

abbrev pub negated : Prefix → ℤ → Result ℤ ExprFault
negated Minus z = checked (neg_ℤ z)
negated Plus z = Ok z
negated Complement z = Ok (complement z)
negated Not z = Ok (bit (int_eq z (pos 0)))

abbrev pub prefixed : Prefix → List ℕ → Result ℤ ExprFault
prefixed Not a = on_truth a (truth_of a) (λ b. Ok (bit (not b)))
prefixed Minus a = on_number a (number_of a) (negated Minus)
prefixed Plus a = on_number a (number_of a) (negated Plus)
prefixed Complement a = on_number a (number_of a) (negated Complement)

-- Two numbers are compared as numbers, all other values as texts, byte by byte.
abbrev pub order_of : Option ℤ → Option ℤ → List ℕ → List ℕ → Ordering
order_of (Some x) (Some y) a b = int_cmp x y
order_of (Some x) None a b = slice_cmp nat_cmp a b
order_of None y a b = slice_cmp nat_cmp a b

abbrev pub holds : Comparison → Ordering → Bool
holds Less order.Less = true
holds Less order.Equal = false
holds Less order.Greater = false
holds Greater order.Less = false
holds Greater order.Equal = false
holds Greater order.Greater = true
holds AtMost order.Less = true
holds AtMost order.Equal = true
holds AtMost order.Greater = false
holds AtLeast order.Less = false
holds AtLeast order.Equal = true
holds AtLeast order.Greater = true
holds Equal order.Less = false
holds Equal order.Equal = true
holds Equal order.Greater = false
holds Unequal order.Less = true
holds Unequal order.Equal = false
holds Unequal order.Greater = true

-- f of whether a text is an element of a list. The error `BadList` if there is no list.
abbrev pub on_element : List ℕ → Option (List (List ℕ)) → (Bool → Bool) → Result ℤ ExprFault
on_element a None f = Err BadList
on_element a (Some es) f = Ok (bit (f (list_any (bytes_eq a) es)))

-- The left operand is checked before the right one.
abbrev pub combined : Eager → List ℕ → List ℕ → Result ℤ ExprFault
combined (eager.Arithmetic op) a b = on_number a (number_of a) (λ x. on_number b (number_of b) (arithmetic op x))
combined (eager.Comparison op) a b = Ok (bit (holds op (order_of (number_of a) (number_of b) a b)))
combined eager.Same a b = Ok (bit (bytes_eq a b))
combined eager.Differs a b = Ok (bit (not (bytes_eq a b)))
combined eager.In a b = on_element a (elements b) (λ t. t)
combined eager.NotIn a b = on_element a (elements b) not

-- The first operand decides: false for `&&`, true for `||`.
abbrev pub decides : Lazy → Bool → Bool
decides And b = not b
decides Or b = b

-- ---- Trees

-- A value with the operands left, an error, or the operand that is needed next.
pub data Valued : Type 0 where
  valued : List ℕ → List (List ℕ) → Valued
  failed : ExprFault → Valued
  asks : Spelled → Valued

infixl 10 ◌>>=◌
abbrev pub ◌>>=◌ : Valued → (List ℕ → List (List ℕ) → Valued) → Valued
(valued a vs) >>= f = f a vs
(failed e) >>= f = failed e
(asks w) >>= f = asks w

-- A computed value, with the operands left.
abbrev pub computed : List (List ℕ) → Result ℤ ExprFault → Valued
computed vs (Ok z) = valued (number_text z) vs
computed vs (Err e) = failed e

-- The next operand.
abbrev pub taken : Spelled → List (List ℕ) → Valued
taken w [] = asks w
taken w (v ∷ vs) = valued v vs

-- Applies f to the truth value that a text must be.
abbrev pub on_test : List ℕ → Option Bool → (Bool → Valued) → Valued
on_test a None f = failed (NotNumber a)
on_test a (Some b) f = f b

-- The value of `&&` and `||` if the second operand is needed, given that operand.
abbrev pub second : List ℕ → List (List ℕ) → Valued
second b vs = computed vs (on_truth b (truth_of b) (λ t. Ok (bit t)))

unfoldable pub eval : Tree → List (List ℕ) → Valued
eval (number z) vs = valued (number_text z) vs
eval (word w) vs = valued (word_text w) vs
eval (operand w) vs = taken w vs
eval (unary op t) vs = eval t vs >>= λ a vs. computed vs (prefixed op a)
eval (binary op l r) vs = eval l vs >>= λ a vs. eval r vs >>= λ b vs. computed vs (combined op a b)
eval (lazy op l r) vs = eval l vs >>= λ a vs. on_test a (truth_of a) (λ t. if decides op t then valued (bit_text t) vs else (eval r vs >>= second))
eval (choice c a b) vs = eval c vs >>= λ x vs. on_test x (truth_of x) (λ t. if t then eval a vs else eval b vs)

-- The result of an expression with these values of operands, in the order in which they are read.
pub data Outcome : Type 0 where
  known : List ℕ → Outcome
  faulty : ExprFault → Outcome
  -- The operand that is needed next.
  needs : Spelled → Outcome

abbrev pub outcome_of : Valued → Outcome
outcome_of (valued a vs) = known a
outcome_of (failed e) = faulty e
outcome_of (asks w) = needs w

unfoldable pub outcome : Tree → List (List ℕ) → Outcome
outcome t vs = outcome_of (eval t vs)

-- The number of operands in an expression.
abbrev pub operands_in : Tree → ℕ
operands_in (number z) = 0
operands_in (word w) = 0
operands_in (operand w) = 1
operands_in (unary op t) = operands_in t
operands_in (binary op l r) = operands_in l + operands_in r
operands_in (lazy op l r) = operands_in l + operands_in r
operands_in (choice c a b) = operands_in c + operands_in a + operands_in b
