-- The results of a step of an evaluation.
use Rattle.std.specs.Prelude.{◌≡◌, ℕ, Bool, true, false, List, [], ◌∷◌, Some, None}
use Rattle.tcl_words.specs.Pieces.{Spelled}
use Rattle.tcl_expr.specs.declared.faults.ExprFault.{ExprFault}
use Rattle.tcl_expr.specs.declared.faults.ExprFault.TheVariants.{Syntax, Memory}
use Rattle.tcl_expr.specs.declared.advance.Step.{Step}
use Rattle.tcl_expr.specs.declared.advance.Step.TheVariants.{Value, NeedVar, NeedScript, Fault}
use Rattle.tcl_expr.specs.Tree.{Tree}
use Rattle.tcl_expr.specs.Script.{has_script}
use Rattle.tcl_expr.specs.Value.{known, faulty, needs, outcome}
use Rattle.tcl_expr.specs.Numbered.{operand_at, asked}
use Rattle.tcl_expr.specs.Instr.{Instr, ask}

-- The operand with number k is needed next.
pub record Needs (scripted : Bool) (k : ℕ) (t : Tree) (given : List (List ℕ)) : Type 0 where
  pub word : Spelled
  pub is : outcome t given ≡ needs word
  pub numbered : operand_at t k ≡ Some word
  pub begins : has_script word.pieces ≡ scripted

-- The instruction asks for its operand, which has number k.
pub record AsksOperand (scripted : Bool) (k n : ℕ) (i : Instr) : Type 0 where
  pub word : Spelled
  pub is : i ≡ ask word
  pub begins : has_script word.pieces ≡ scripted
  pub place : n ≡ k

abbrev pub AsksAt : Step → Instr → ℕ → Type 0
AsksAt (Value text) i k = ⊥
AsksAt (NeedVar n) i k = AsksOperand false k n i
AsksAt (NeedScript n) i k = AsksOperand true k n i
AsksAt (Fault fault) i k = (fault ≡ Syntax) × (asked (Some i) ≡ None)

-- The value on top of a stack.
abbrev pub AnswersFault : ExprFault → List (List ℕ) → Type 0
AnswersFault Memory st = Unit {0}
AnswersFault fault st = (fault ≡ Syntax) × (st ≡ [])

abbrev pub Answers : Step → List (List ℕ) → Type 0
Answers (Value text) st = (rest : List (List ℕ)) × (st ≡ text ∷ rest)
Answers (NeedVar k) st = ⊥
Answers (NeedScript k) st = ⊥
Answers (Fault fault) st = AnswersFault fault st

-- If memory is refused, nothing is claimed.
abbrev pub TellsFault : ExprFault → Tree → List (List ℕ) → Type 0
TellsFault Memory t given = Unit {0}
TellsFault fault t given = outcome t given ≡ faulty fault

-- With the operands given so far: the value, the error, or the next operand.
abbrev pub Tells : Step → Tree → List (List ℕ) → Type 0
Tells (Value text) t given = outcome t given ≡ known text
Tells (NeedVar k) t given = Needs false k t given
Tells (NeedScript k) t given = Needs true k t given
Tells (Fault fault) t given = TellsFault fault t given
