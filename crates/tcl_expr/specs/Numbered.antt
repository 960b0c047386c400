-- The operands of an expression are numbered by their positions among its instructions.
use Rattle.std.specs.Prelude.{ℕ, Option, Some, None, slice_get}
use Rattle.tcl_words.specs.Pieces.{Spelled}
use Rattle.tcl_expr.specs.Tree.{Tree}
use Rattle.tcl_expr.specs.Instr.{Instr, ask, postfix}

abbrev pub asked : Option Instr → Option Spelled
asked None = None
asked (Some (ask w)) = Some w
asked (Some i) = None

-- The operand with number k.
unfoldable pub operand_at : Tree → ℕ → Option Spelled
operand_at t k = asked (slice_get (postfix t) k)
