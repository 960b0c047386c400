-- The grammar of `Rules` as a function that also gives the first error. Each level of precedence is a chain of the next
-- tighter level, grouped to the left. Level 1, which is `**`, and `?:` group to the right.
--
--     whole   := level13 | level13 '?' whole ':' whole
--     level k := level (k-1) (operator-of-level-k level (k-1))*
--     level 0 := prefix level0 | '(' whole ')' | number | word | operand
--
-- A reading takes bytes that don't begin with white space, and the white space after what it reads. Nesting that is too
-- deep is an error at its opening byte.
use Rattle.std.specs.Prelude.{ℕ, zero, suc, ◌+◌, List, [], ◌∷◌, length, drop, Option, Some, None, Result, Ok, Err, ◌==◌, if◌then◌else◌}
use Rattle.tcl_words.specs.Bytes as ascii
use Rattle.tcl_words.specs.Course.{reading}
use Rattle.tcl_words.specs.Lists.{begins_with}
use Rattle.tcl_expr.specs.declared.faults.ExprFault.{ExprFault}
use Rattle.tcl_expr.specs.declared.faults.ExprFault.TheVariants.{Syntax, TooDeep}
use Rattle.tcl_expr.specs.declared.operators.Prefix.{Prefix}
use Rattle.tcl_expr.specs.declared.operators.Infix.{Infix}
use Rattle.tcl_expr.specs.White.{gap}
use Rattle.tcl_expr.specs.Infix.{infix_at, of_level, prefix_at}
use Rattle.tcl_expr.specs.Tree.{Tree, number, unary, joined, choice}
use Rattle.tcl_expr.specs.Leaf.{Read, spaced, leaf, is_lowest, digits_len, lowest}
use Rattle.tcl_expr.specs.Rules.{deepest}

-- The same, read n bytes later. f changes the tree.
abbrev pub behind : ℕ → (Tree → Tree) → Read → Read
behind n f (Err e) = Err e
behind n f (Ok p) = Ok (f p.0, n + p.1)

-- The readers one level deeper: after `(`, in a branch of `?:`, and after a prefix operator.
pub record Inside : Type 0 where
  pub whole : List ℕ → Read
  pub term : List ℕ → Read

-- An expression that was read at index n, with the `)` after it.
abbrev pub in_parens : List ℕ → ℕ → Read → Read
in_parens text n (Err e) = Err e
in_parens text n (Ok p) = if begins_with ascii.close_paren (drop (n + p.1) text) then spaced text p.0 (n + p.1 + 1) else Err Syntax

abbrev pub prefixed : Inside → List ℕ → Option Prefix → Read
prefixed inside text None = leaf text
prefixed inside text (Some op) = behind (gap text 1) (unary op) (inside.term (drop (gap text 1) text))

abbrev pub term_at : Inside → ℕ → List ℕ → Read
term_at inside b bytes =
    if b == ascii.open_paren then in_parens (b ∷ bytes) (gap (b ∷ bytes) 1) (inside.whole (drop (gap (b ∷ bytes) 1) (b ∷ bytes)))
    else (if is_lowest b bytes then spaced (b ∷ bytes) (number lowest) (1 + digits_len bytes)
    else prefixed inside (b ∷ bytes) (prefix_at b))

-- Level 0.
unfoldable pub term : Inside → List ℕ → Read
term inside [] = Err Syntax
term inside (b ∷ bytes) = term_at inside b bytes

-- A right operand that begins n bytes after its operator's first byte, followed by the rest of the chain. Both operands
-- are the left operand of the rest.
abbrev pub to_left : (ℕ → Tree → Read) → Infix → ℕ → Tree → Read → Read
to_left on op n l (Err e) = Err e
to_left on op n l (Ok p) = behind (1 + n + p.1) (λ t. t) (on (n + p.1) (joined op l p.0))

-- The same, but the rest belongs to the right operand.
abbrev pub to_right : (ℕ → Tree → Read) → Infix → ℕ → Tree → Read → Read
to_right on op n l (Err e) = Err e
to_right on op n l (Ok p) = behind (1 + n + p.1) (joined op l) (on (n + p.1) p.0)

module _ (grouped : (ℕ → Tree → Read) → Infix → ℕ → Tree → Read → Read) (next : List ℕ → Read) (k : ℕ) where
  -- An operator with its right operand, followed by the rest of the chain.
  abbrev pub link : (ℕ → Tree → Read) → List ℕ → Tree → Option (Infix × ℕ) → Read
  link on bytes l None = Ok (l, 0)
  link on bytes l (Some (op, n)) = grouped on op (gap bytes n) l (next (drop (gap bytes n) bytes))

  abbrev pub chain_step : (ℕ → Tree → Read) → ℕ → List ℕ → Tree → Read
  chain_step on b bytes l = link on bytes l (of_level k (infix_at b bytes))

  -- After a first operand: the operators of level k, each with a right operand of the next tighter level.
  unfoldable pub chain : List ℕ → Tree → Read
  chain = reading (λ l. Ok (l, 0)) chain_step

  -- An operand and the chain after it.
  abbrev pub chained : List ℕ → Read → Read
  chained text (Err e) = Err e
  chained text (Ok p) = behind p.1 (λ t. t) (chain (drop p.1 text) p.0)

unfoldable pub level : Inside → ℕ → List ℕ → Read
level inside zero text = term inside text
level inside (suc zero) text = chained to_right (term inside) 1 text (term inside text)
level inside (suc (suc k)) text = chained to_left (level inside (suc k)) (suc (suc k)) text (level inside (suc k) text)

-- The second branch, at index n.
abbrev pub otherwise : Tree → Tree → ℕ → Read → Read
otherwise c a n r = behind n (choice c a) r

-- The first branch was read at index n. Now `:` and the second branch follow.
abbrev pub colon : Inside → List ℕ → Tree → ℕ → Read → Read
colon inside text c n (Err e) = Err e
colon inside text c n (Ok p) =
    if begins_with ascii.colon (drop (n + p.1) text)
    then otherwise c p.0 (gap text (n + p.1 + 1)) (inside.whole (drop (gap text (n + p.1 + 1)) text))
    else Err Syntax

-- A condition, and its branches if `?` follows.
abbrev pub question : Inside → List ℕ → Read → Read
question inside text (Err e) = Err e
question inside text (Ok p) =
    if begins_with ascii.question (drop p.1 text)
    then colon inside text p.0 (gap text (p.1 + 1)) (inside.whole (drop (gap text (p.1 + 1)) text))
    else Ok p

unfoldable pub whole : Inside → List ℕ → Read
whole inside text = question inside text (level inside 13 text)

unfoldable pub inside_of : ℕ → Inside
inside_of zero = record { whole = λ text. Err TooDeep; term = λ text. Err TooDeep }
inside_of (suc depth) = record { whole = whole (inside_of depth); term = term (inside_of depth) }

-- No bytes may follow an expression.
abbrev pub to_the_end : List ℕ → Read → Result Tree ExprFault
to_the_end text (Err e) = Err e
to_the_end text (Ok p) = if length text == p.1 then Ok p.0 else Err Syntax

-- The tree of a text, or the error.
unfoldable pub parsed : List ℕ → Result Tree ExprFault
parsed text = to_the_end (drop (gap text 0) text) (whole (inside_of deepest) (drop (gap text 0) text))
