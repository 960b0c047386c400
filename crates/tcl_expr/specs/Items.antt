-- Definitions for the operators on values.
use Rattle.std.specs.Prelude.{◌≡◌, ℕ, List, Bool, true, false, not}
use Rattle.tcl_words.specs.declared.faults.ListFault.{ListFault}
use Rattle.tcl_words.specs.declared.faults.ListFault.TheVariants as list
use Rattle.tcl_expr.specs.declared.items.Shown.{Shown}
use Rattle.tcl_expr.specs.declared.items.Shown.TheVariants.{Lent, Written}
use Rattle.tcl_expr.specs.declared.faults.ExprFault.{ExprFault}
use Rattle.tcl_expr.specs.declared.faults.ExprFault.TheVariants.{Memory, NotNumber, BadList}

abbrev pub shown_text : Shown → List ℕ
shown_text (Lent bytes) = bytes.now
shown_text (Written value) = value

abbrev pub opposed : Bool → Bool → Bool
opposed true b = not b
opposed false b = b

-- The error for a text that is no number, or for refused memory.
abbrev pub IsNotNumber : ExprFault → List ℕ → Type 0
IsNotNumber Memory text = Unit {0}
IsNotNumber fault text = fault ≡ NotNumber text

abbrev pub of_list_fault : ListFault → ExprFault
of_list_fault list.BadList = BadList
of_list_fault list.Memory = Memory
