-- The tree of an expression, and its instructions in postfix order.
use Rattle.std.specs.Prelude.{ℕ, suc, List, [], ◌∷◌, ◌++◌, length, ℤ, pos}
use Rattle.tcl_words.specs.Pieces.{Spelled, word_view}
use Rattle.tcl_expr.specs.declared.bareword.Bareword.{Bareword}
use Rattle.tcl_expr.specs.declared.operators.Prefix.{Prefix}
use Rattle.tcl_expr.specs.declared.operators.Eager.{Eager}
use Rattle.tcl_expr.specs.declared.operators.Lazy.{Lazy}
use Rattle.tcl_expr.specs.declared.code.Op.{Op}
use Rattle.tcl_expr.specs.declared.code.Op.TheVariants as ops
use Rattle.tcl_expr.specs.Tree.{Tree, number, word, operand, unary, binary, lazy, choice}

-- `Run` defines what an instruction does.
pub data Instr : Type 0 where
  push : ℤ → Instr
  push_word : Bareword → Instr
  ask : Spelled → Instr
  apply : Prefix → Instr
  combine : Eager → Instr
  test : Lazy → ℕ → Instr
  truth : Lazy → Instr
  branch : ℕ → Instr
  skip : ℕ → Instr
  join : Instr

abbrev pub op_view : Op → Instr
op_view (ops.Number z) = push z
op_view (ops.Word w) = push_word w
op_view (ops.Operand w) = ask (word_view w)
op_view (ops.Apply op) = apply op
op_view (ops.Combine op) = combine op
op_view (ops.Test op n) = test op n
op_view (ops.Truth op) = truth op
op_view (ops.Branch n) = branch n
op_view (ops.Skip n) = skip n
op_view ops.Join = join

-- The instructions of a tree: first those of its operands, then its own. A jump skips what isn't needed.
unfoldable pub postfix : Tree → List Instr
postfix (number z) = push z ∷ []
postfix (word w) = push_word w ∷ []
postfix (operand w) = ask w ∷ []
postfix (unary op t) = postfix t ++ (apply op ∷ [])
postfix (binary op l r) = postfix l ++ (postfix r ++ (combine op ∷ []))
postfix (lazy op l r) = postfix l ++ (test op (suc (length (postfix r))) ∷ (postfix r ++ (truth op ∷ [])))
postfix (choice c a b) = postfix c ++ (branch (suc (length (postfix a))) ∷ (postfix a ++ (skip (length (postfix b)) ∷ (postfix b ++ (join ∷ [])))))

-- The trees on a stack after an instruction.
abbrev pub grown : Instr → List Tree → List Tree
grown (push z) ts = number z ∷ ts
grown (push_word w) ts = word w ∷ ts
grown (ask w) ts = operand w ∷ ts
grown (apply op) (t ∷ ts) = unary op t ∷ ts
grown (combine op) (r ∷ l ∷ ts) = binary op l r ∷ ts
grown (truth op) (r ∷ l ∷ ts) = lazy op l r ∷ ts
grown join (b ∷ a ∷ c ∷ ts) = choice c a b ∷ ts
grown i ts = ts

unfoldable pub built : List Instr → List Tree → List Tree
built [] ts = ts
built (i ∷ code) ts = built code (grown i ts)

abbrev pub top : List Tree → Tree
top [] = number (pos 0)
top (t ∷ ts) = t

-- The tree with these instructions.
unfoldable pub tree_of : List Instr → Tree
tree_of code = top (built code [])
