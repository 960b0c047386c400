-- Expressions whose operands are known numbers.
use Rattle.std.specs.Prelude.{◌≡◌, ℕ, List, [], ◌∷◌, ◌++◌, ℤ}
use Rattle.tcl_words.specs.Pieces.{Spelled}
use Rattle.tcl_expr.specs.Number.{number_text}
use Rattle.tcl_expr.specs.Tree.{Tree}
use Rattle.tcl_expr.specs.Value.{outcome, known, needs}
use Rattle.tcl_expr.specs.declared.progress.Operands.{Operands}
use Rattle.tcl_expr.specs.declared.turns.Turn.{Turn}
use Rattle.tcl_expr.specs.declared.turns.Turn.TheVariants.{Went, Asks, Failed}
use Rattle.tcl_expr.specs.Instr.{Instr, push, ask}
use Rattle.tcl_expr.specs.Turns.{WentOn}

-- The operands' values in the order in which the expression needs them. Each is a number that `tells` allows.
pub data Answered (tells : Spelled → ℤ → Type 0) (t : Tree) : List (List ℕ) → Type 0 where
  nothing : Answered tells t []
  one_more : (given : List (List ℕ)) (w : Spelled) (z : ℤ)
      → Answered tells t given → outcome t given ≡ needs w → tells w z
      → Answered tells t (given ++ number_text z ∷ [])

-- With such operands the expression evaluates to z.
pub record Comes (tells : Spelled → ℤ → Type 0) (t : Tree) (z : ℤ) : Type 0 where
  pub given : List (List ℕ)
  pub answered : Answered tells t given
  pub is : outcome t given ≡ known (number_text z)

-- An instruction that pushes an operand's number, instead of one that asks for the operand.
abbrev pub StandsFor : (Spelled → ℤ → Type 0) → Instr → Instr → Type 0
StandsFor tells (ask w) j = (z : ℤ) × tells w z × (j ≡ push z)
StandsFor tells i j = j ≡ i

-- The instruction was carried out.
pub record Counts (tells : Spelled → ℤ → Type 0) (n : ℕ) (i : Instr) (old new : Operands) : Type 0 where
  pub done : Instr
  pub stands : StandsFor tells i done
  pub went : WentOn n done old new

abbrev pub CountsBy : (Spelled → ℤ → Type 0) → Turn → Instr → Operands → Operands → Type 0
CountsBy tells (Went n) i old new = Counts tells n i old new
CountsBy tells Asks i old new = Unit {0}
CountsBy tells (Failed fault) i old new = Unit {0}
