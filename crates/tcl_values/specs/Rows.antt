-- Elements of a list that are lists themselves.
use Rattle.std.specs.Prelude.{◌≡◌, ℕ, List, slice_get, Some}
use Rattle.tcl_values.specs.declared.rows.Row.{Row}

-- The row is the element of the list at the row's index.
abbrev pub IsRow : List (List ℕ) → Row → Type 0
IsRow es row = slice_get es row.index ≡ Some row.list.value
