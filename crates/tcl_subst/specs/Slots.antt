-- The entries of a scope, and the meaning of reading and changing a scope (Tcl(n): variables and arrays).
use Rattle.std.specs.Prelude.{ℕ, Bool, true, false, List, [], ◌+◌, ◌-◌, length, take, drop, Option, Some, None, Result, Ok, Err, is_some, position, ◌==◌, slice_index, if◌then◌else◌}
use Rattle.tcl_words.specs.Bytes as ascii
use Rattle.tcl_words.specs.Lists.{elements}
use Rattle.tcl_subst.specs.declared.faults.SubstFault.{SubstFault}
use Rattle.tcl_subst.specs.declared.faults.SubstFault.TheVariants.{NoVariable, IsArray, NotArray, Exists, BadList}
use Rattle.tcl_subst.specs.declared.scope.VariablePlace.{VariablePlace}
use Rattle.tcl_subst.specs.declared.scope.Slot.{Slot}
use Rattle.tcl_subst.specs.declared.scope.Slot.TheVariants.{Text, Array, Link}
use Rattle.tcl_subst.specs.Entries.{Entries, find, without, with_entry}

abbrev pub Scope : Type 0
Scope = Entries Slot

-- The array and the index of a name `array(index)`, given the bytes before its last one and the index of the first
-- parenthesis.
abbrev pub parted : List ℕ → Option ℕ → Option (List ℕ × List ℕ)
parted front None = None
parted front (Some paren) = Some (take paren front, drop (paren + 1) front)

-- The array and the index of a name whose last byte is `)` and that contains a `(`. The array stands before the first
-- `(`, the index after it.
unfoldable pub element : List ℕ → Option (List ℕ × List ℕ)
element name =
    if slice_index name (length name - 1) == ascii.close_paren then parted (take (length name - 1) name) (position (λ b. b == ascii.open_paren) (take (length name - 1) name))
    else None

-- The variable that a name is looked up as: for an element, its array.
abbrev pub base_of : Option (List ℕ × List ℕ) → List ℕ → List ℕ
base_of None name = name
base_of (Some e) name = e.0

abbrev pub base : List ℕ → List ℕ
base name = base_of (element name) name

abbrev pub index_of : Option (List ℕ × List ℕ) → Option (List ℕ)
index_of None = None
index_of (Some e) = Some e.1

-- The index of an element's name.
abbrev pub index : List ℕ → Option (List ℕ)
index name = index_of (element name)

-- Reading.

-- The value of a variable that isn't an array.
abbrev pub text_in : Option Slot → Result (List ℕ) SubstFault
text_in None = Err NoVariable
text_in (Some (Text value)) = Ok value
text_in (Some (Array es)) = Err IsArray
text_in (Some (Link place)) = Err NoVariable

abbrev pub there : {X : Type 0} → Option X → Result X SubstFault
there None = Err NoVariable
there (Some x) = Ok x

-- The value of an element.
abbrev pub element_in : List ℕ → Option Slot → Result (List ℕ) SubstFault
element_in index None = Err NoVariable
element_in index (Some (Text value)) = Err NotArray
element_in index (Some (Array es)) = there (find index es)
element_in index (Some (Link place)) = Err NoVariable

abbrev pub slot_read : Option (List ℕ) → Option Slot → Result (List ℕ) SubstFault
slot_read None slot = text_in slot
slot_read (Some index) slot = element_in index slot

-- The value of a variable, or of its element with an index.
abbrev pub read_at : List ℕ → Option (List ℕ) → Scope → Result (List ℕ) SubstFault
read_at variable index scope = slot_read index (find variable scope)

-- The value of a variable or an element.
abbrev pub read : List ℕ → Scope → Result (List ℕ) SubstFault
read name scope = read_at (base name) (index name) scope

abbrev pub text_exists : Option Slot → Bool
text_exists None = false
text_exists (Some (Text value)) = true
text_exists (Some (Array es)) = true
text_exists (Some (Link place)) = false

abbrev pub element_exists : List ℕ → Option Slot → Bool
element_exists index None = false
element_exists index (Some (Text value)) = false
element_exists index (Some (Array es)) = is_some (find index es)
element_exists index (Some (Link place)) = false

-- The variable exists, or its element with an index.
abbrev pub slot_exists : Option (List ℕ) → Option Slot → Bool
slot_exists None slot = text_exists slot
slot_exists (Some index) slot = element_exists index slot

abbrev pub as_text : Result (List ℕ) SubstFault → Result Slot SubstFault
as_text (Ok value) = Ok (Text value)
as_text (Err f) = Err f

abbrev pub as_array : Result (Entries (List ℕ)) SubstFault → Result Slot SubstFault
as_array (Ok es) = Ok (Array es)
as_array (Err f) = Err f

-- Writing: g gives the new value for the old one. A missing value counts as empty.

abbrev pub entered : {X : Type 0} → List ℕ → Entries X → Result X SubstFault → Result (Entries X) SubstFault
entered name es (Ok x) = Ok (with_entry name x es)
entered name es (Err f) = Err f

module _ (g : List ℕ → Result (List ℕ) SubstFault) where
  abbrev pub value_written : Option (List ℕ) → Result (List ℕ) SubstFault
  value_written None = g []
  value_written (Some value) = g value

  abbrev pub entry_written : List ℕ → Entries (List ℕ) → Result (Entries (List ℕ)) SubstFault
  entry_written index es = entered index es (value_written (find index es))

  abbrev pub text_written : Option Slot → Result Slot SubstFault
  text_written None = as_text (g [])
  text_written (Some (Text value)) = as_text (g value)
  text_written (Some (Array es)) = Err IsArray
  text_written (Some (Link place)) = as_text (g [])

  abbrev pub element_written : List ℕ → Option Slot → Result Slot SubstFault
  element_written index None = as_array (entry_written index [])
  element_written index (Some (Text value)) = Err NotArray
  element_written index (Some (Array es)) = as_array (entry_written index es)
  element_written index (Some (Link place)) = as_array (entry_written index [])

  abbrev pub slot_written : Option (List ℕ) → Option Slot → Result Slot SubstFault
  slot_written None slot = text_written slot
  slot_written (Some index) slot = element_written index slot

  -- The scope after g was applied to a variable, or to its element with an index.
  abbrev pub written : List ℕ → Option (List ℕ) → Scope → Result Scope SubstFault
  written variable index scope = entered variable scope (slot_written index (find variable scope))

-- Unsetting.

abbrev pub text_unset : Option Slot → List ℕ → Scope → Result Scope SubstFault
text_unset slot name scope = if text_exists slot then Ok (without name scope) else Err NoVariable

abbrev pub entry_unset : Option (List ℕ) → List ℕ → Entries (List ℕ) → Result (Entries (List ℕ)) SubstFault
entry_unset None index es = Err NoVariable
entry_unset (Some value) index es = Ok (without index es)

abbrev pub element_unset : List ℕ → Option Slot → Result Slot SubstFault
element_unset index None = Err NoVariable
element_unset index (Some (Text value)) = Err NotArray
element_unset index (Some (Array es)) = as_array (entry_unset (find index es) index es)
element_unset index (Some (Link place)) = Err NoVariable

-- The scope without a variable, or without its element with an index.
abbrev pub unset : List ℕ → Option (List ℕ) → Scope → Result Scope SubstFault
unset variable None scope = text_unset (find variable scope) variable scope
unset variable (Some index) scope = entered variable scope (element_unset index (find variable scope))

-- Linking.

-- The place of a variable of the scope itself.
abbrev pub here : VariablePlace
here = record { calls = 0; name = None }

-- The name at a place, given the one under which it is looked for.
abbrev pub name_or : List ℕ → Option (List ℕ) → List ℕ
name_or name None = name
name_or name (Some other) = other

-- Where the entry of a name leads.
abbrev pub leads : Option Slot → VariablePlace
leads None = here
leads (Some (Text value)) = here
leads (Some (Array es)) = here
leads (Some (Link place)) = place

-- A link replaces another one, but no variable.
abbrev pub linked_over : VariablePlace → Option Slot → Result Slot SubstFault
linked_over place None = Ok (Link place)
linked_over place (Some (Text value)) = Err Exists
linked_over place (Some (Array es)) = Err Exists
linked_over place (Some (Link old)) = Ok (Link place)

abbrev pub link_of : Option (List ℕ × List ℕ) → VariablePlace → List ℕ → Scope → Result Scope SubstFault
link_of None place name scope = entered name scope (linked_over place (find name scope))
link_of (Some e) place name scope = Ok scope

-- The scope with a link. The name of an element can't be a link.
abbrev pub link : VariablePlace → List ℕ → Scope → Result Scope SubstFault
link place name scope = link_of (element name) place name scope

-- Arrays.

-- The elements of an array, in byte order of indexes. `None` for a variable that is no array.
abbrev pub elements_in : Option Slot → Option (Entries (List ℕ))
elements_in None = None
elements_in (Some (Text value)) = None
elements_in (Some (Array es)) = Some es
elements_in (Some (Link place)) = None

-- A missing variable becomes an array without elements.
abbrev pub array_made : Option Slot → Result Slot SubstFault
array_made None = Ok (Array [])
array_made (Some (Text value)) = Err NotArray
array_made (Some (Array es)) = Ok (Array es)
array_made (Some (Link place)) = Ok (Array [])

-- Lists.

abbrev pub some_list : Option (List (List ℕ)) → Result (List (List ℕ)) SubstFault
some_list None = Err BadList
some_list (Some l) = Ok l

-- The list that a value is, if the value was read.
abbrev pub list_in : Result (List ℕ) SubstFault → Result (List (List ℕ)) SubstFault
list_in (Ok value) = some_list (elements value)
list_in (Err f) = Err f
