-- A text as a list, and lists with appended elements (list(n), lappend(n)).
use Rattle.std.specs.Prelude.{ℕ, List, [], ◌++◌, length, nat_lt, Option, Some, None, Result, Ok, Err, unwrap_or, if◌then◌else◌}
use Rattle.tcl_words.specs.declared.faults.ListFault.{ListFault}
use Rattle.tcl_words.specs.declared.faults.ListFault.TheVariants as list
use Rattle.tcl_words.specs.Lists.{elements, written}
use Rattle.tcl_values.specs.declared.faults.GrowFault.{GrowFault}
use Rattle.tcl_values.specs.declared.faults.GrowFault.TheVariants.{BadList, TooLong, Memory}

abbrev pub of_list_fault : ListFault → GrowFault
of_list_fault list.BadList = BadList
of_list_fault list.Memory = Memory

-- The elements of a text that is a list.
abbrev pub elements_of : List ℕ → List (List ℕ)
elements_of text = unwrap_or (elements text) []

-- The text, if it has at most `limit` bytes.
abbrev pub within : ℕ → List ℕ → Result (List ℕ) GrowFault
within limit text = if nat_lt limit (length text) then Err TooLong else Ok text

-- The written form of a list with more elements appended.
abbrev pub grown : ℕ → List (List ℕ) → Option (List (List ℕ)) → Result (List ℕ) GrowFault
grown limit more None = Err BadList
grown limit more (Some l) = within limit (written (l ++ more))

-- A text after more elements were appended to it as a list.
abbrev pub with_elements : ℕ → List ℕ → List (List ℕ) → Result (List ℕ) GrowFault
with_elements limit text more = grown limit more (elements text)
