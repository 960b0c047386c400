-- The result of a reading.
use Rattle.std.specs.Prelude.{◌≡◌, ℕ, List, ◌++◌, drop, replicate, Result, Ok, Err}
use Rattle.tcl_expr.specs.declared.faults.ExprFault.{ExprFault}
use Rattle.tcl_expr.specs.declared.faults.ExprFault.TheVariants.{Memory}
use Rattle.tcl_expr.specs.declared.operators.Arithmetic.TheVariants.{Power}
use Rattle.tcl_expr.specs.declared.operators.Eager.TheVariants as eager
use Rattle.tcl_expr.specs.declared.operators.Infix.{Infix}
use Rattle.tcl_expr.specs.Tree.{Tree, choice, joined}
use Rattle.tcl_expr.specs.Instr.{Instr, combine, postfix}
use Rattle.tcl_expr.specs.Leaf.{Read}
use Rattle.tcl_expr.specs.Grammar.{Inside, colon}

-- The result is what the definition says: a value or an error. If memory is refused, nothing is claimed.
abbrev pub Fails : {Y : Type 0} → ExprFault → Result Y ExprFault → Type 0
Fails Memory read = Unit {0}
Fails fault read = read ≡ Err fault

abbrev pub Gives : {Y : Type 0} → Result Y ExprFault → Result Y ExprFault → Type 0
Gives (Ok y) read = read ≡ Ok y
Gives (Err fault) read = Fails fault read

-- A tree of n bytes was read, and its instructions were appended.
pub record Wrote (n : ℕ) (read : Read) (old new : List Instr) : Type 0 where
  pub tree : Tree
  pub is : read ≡ Ok (tree, n)
  pub code : new ≡ old ++ postfix tree

abbrev pub Writes : Result ℕ ExprFault → Read → List Instr → List Instr → Type 0
Writes (Ok n) read old new = Wrote n read old new
Writes (Err fault) read old new = Fails fault read

-- The right operand of an operator was read. Its instructions and those of the operator were appended to those of the
-- left operand.
pub record WroteRight (op : Infix) (n : ℕ) (read : Read) (old new : List Instr) : Type 0 where
  pub tree : Tree
  pub is : read ≡ Ok (tree, n)
  pub code : (before : List Instr) (l : Tree) → old ≡ before ++ postfix l → new ≡ before ++ postfix (joined op l tree)

abbrev pub WritesRight : Result ℕ ExprFault → Infix → Read → List Instr → List Instr → Type 0
WritesRight (Ok n) op read old new = WroteRight op n read old new
WritesRight (Err fault) op read old new = Fails fault read

-- A chain of `**` of n bytes was read. Its instructions were appended, except its operators, which come last.
pub record WroteOperands (count n : ℕ) (read : Read) (old new : List Instr) : Type 0 where
  pub tree : Tree
  pub is : read ≡ Ok (tree, n)
  pub code : new ++ replicate count (combine (eager.Arithmetic Power)) ≡ old ++ postfix tree

abbrev pub WritesOperands : Result (ℕ × ℕ) ExprFault → Read → List Instr → List Instr → Type 0
WritesOperands (Ok (n, count)) read old new = WroteOperands count n read old new
WritesOperands (Err fault) read old new = Fails fault read

-- The branches at index n were read. Their instructions were appended to those of the condition.
pub record WroteBranches (m : ℕ) (inside : Inside) (text : List ℕ) (n : ℕ) (old new : List Instr) : Type 0 where
  pub first : Tree
  pub second : Tree
  pub is : (c : Tree) → colon inside text c n (inside.whole (drop n text)) ≡ Ok (choice c first second, m)
  pub code : (before : List Instr) (c : Tree) → old ≡ before ++ postfix c → new ≡ before ++ postfix (choice c first second)

abbrev pub FailsBranches : ExprFault → Inside → List ℕ → ℕ → Type 0
FailsBranches fault inside text n = (c : Tree) → Fails fault (colon inside text c n (inside.whole (drop n text)))

abbrev pub WritesBranches : Result ℕ ExprFault → Inside → List ℕ → ℕ → List Instr → List Instr → Type 0
WritesBranches (Ok m) inside text n old new = WroteBranches m inside text n old new
WritesBranches (Err fault) inside text n old new = FailsBranches fault inside text n
