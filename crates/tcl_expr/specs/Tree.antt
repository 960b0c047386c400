-- The tree of an expression.
use Rattle.std.specs.Prelude.{ℤ}
use Rattle.tcl_words.specs.Pieces.{Spelled}
use Rattle.tcl_expr.specs.declared.bareword.Bareword.{Bareword}
use Rattle.tcl_expr.specs.declared.operators.Prefix.{Prefix}
use Rattle.tcl_expr.specs.declared.operators.Eager.{Eager}
use Rattle.tcl_expr.specs.declared.operators.Lazy.{Lazy}
use Rattle.tcl_expr.specs.declared.operators.Infix.{Infix}
use Rattle.tcl_expr.specs.declared.operators.Infix.TheVariants as between

pub data Tree : Type 0 where
  number : ℤ → Tree
  word : Bareword → Tree
  -- The substituted value of this word.
  operand : Spelled → Tree
  unary : Prefix → Tree → Tree
  binary : Eager → Tree → Tree → Tree
  -- `&&` and `||`.
  lazy : Lazy → Tree → Tree → Tree
  -- `?:`.
  choice : Tree → Tree → Tree → Tree

-- Two operands with the operator between them.
abbrev pub joined : Infix → Tree → Tree → Tree
joined (between.Eager op) l r = binary op l r
joined (between.Lazy op) l r = lazy op l r
