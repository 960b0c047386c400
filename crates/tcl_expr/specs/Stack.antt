-- The stack of values that wait for their operators, the last value first.
use Rattle.std.specs.Prelude.{ℕ, List, [], ◌∷◌, slice_index_or, nat_lt, Bool, true, Option, Some, None}
use Rattle.tcl_expr.specs.declared.stack.StackEntry.{StackEntry}
use Rattle.tcl_expr.specs.declared.stack.StackEntry.TheVariants as items
use Rattle.tcl_expr.specs.Number.{number_text}
use Rattle.tcl_expr.specs.Truth.{word_text}

abbrev pub first : List StackEntry → Option StackEntry
first [] = None
first (x ∷ xs) = Some x

-- The text of a value, with these operands.
abbrev pub item_text : List (List ℕ) → StackEntry → List ℕ
item_text given (items.Number z) = number_text z
item_text given (items.Word w) = word_text w
item_text given (items.Given k) = slice_index_or given k []

-- The value is none of the operands with index n or higher.
abbrev pub is_below : ℕ → StackEntry → Bool
is_below n (items.Number z) = true
is_below n (items.Word w) = true
is_below n (items.Given k) = nat_lt k n
