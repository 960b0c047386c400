-- The result of carrying out an instruction.
use Rattle.std.specs.Prelude.{◌≡◌, ℕ, List, [], drop}
use Rattle.tcl_expr.specs.declared.faults.ExprFault.{ExprFault}
use Rattle.tcl_expr.specs.declared.faults.ExprFault.TheVariants.{Memory}
use Rattle.tcl_expr.specs.declared.progress.Operands.{Operands}
use Rattle.tcl_expr.specs.declared.turns.Turn.{Turn}
use Rattle.tcl_expr.specs.declared.turns.Turn.TheVariants.{Went, Asks, Failed}
use Rattle.tcl_expr.specs.Instr.{Instr, ask}
use Rattle.tcl_expr.specs.Value.{failed}
use Rattle.tcl_expr.specs.Run.{On, does, held, left}

-- The instruction was carried out. The rest skips n instructions and continues with the new stack and operands.
pub record WentOn (n : ℕ) (i : Instr) (old new : Operands) : Type 0 where
  pub goes : (go : On) (more : List (List ℕ)) → does i go (held old) (left old more) ≡ go n (held new) (left new more)
  pub given : new.given ≡ old.given
  pub at : new.at ≡ old.at

-- The instruction fails, whatever follows it.
pub record Faults (fault : ExprFault) (i : Instr) (old new : Operands) : Type 0 where
  pub is : (go : On) (more : List (List ℕ)) → does i go (held old) (left old more) ≡ failed fault
  pub kept : new ≡ old

abbrev pub IsAsk : Instr → Type 0
IsAsk (ask w) = Unit {0}
IsAsk i = ⊥

-- The instruction asks for an operand, and all given operands are used.
pub record AsksFor (i : Instr) (old new : Operands) : Type 0 where
  pub asks : IsAsk i
  pub none_left : drop old.used old.given ≡ []
  pub kept : new ≡ old

abbrev pub FailsTurn : ExprFault → Instr → Operands → Operands → Type 0
FailsTurn Memory i old new = new ≡ old
FailsTurn fault i old new = Faults fault i old new

abbrev pub Turns : Turn → Instr → Operands → Operands → Type 0
Turns (Went n) i old new = WentOn n i old new
Turns Asks i old new = AsksFor i old new
Turns (Failed fault) i old new = FailsTurn fault i old new
