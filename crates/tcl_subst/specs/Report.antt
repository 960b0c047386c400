-- The values of a scope, by name.
use Rattle.std.specs.Prelude.{ℕ, List, [], ◌∷◌, map}
use Rattle.tcl_subst.specs.declared.scope.Slot.{Slot}
use Rattle.tcl_subst.specs.declared.scope.Slot.TheVariants.{Text, Array, Link}
use Rattle.tcl_subst.specs.Entries.{Entries, with_entry}
use Rattle.tcl_subst.specs.Filling.{element_name}
use Rattle.tcl_subst.specs.Slots.{Scope}

-- Inserts entries in the order of names.
abbrev pub sorted_onto : Entries (List ℕ) → Entries (List ℕ) → Entries (List ℕ)
sorted_onto sorted [] = sorted
sorted_onto sorted (e ∷ es) = sorted_onto (with_entry e.0 e.1 sorted) es

-- Inserts the elements of an array.
abbrev pub elements_onto : Entries (List ℕ) → List ℕ → Entries (List ℕ) → Entries (List ℕ)
elements_onto sorted array es = sorted_onto sorted (map (λ e. (element_name array e.0, e.1)) es)

-- Inserts the value of a name, or the values of its elements.
abbrev pub slot_onto : Entries (List ℕ) → List ℕ → Slot → Entries (List ℕ)
slot_onto sorted name (Text value) = with_entry name value sorted
slot_onto sorted name (Array es) = elements_onto sorted name es
slot_onto sorted name (Link place) = sorted

abbrev pub scope_onto : Entries (List ℕ) → Scope → Entries (List ℕ)
scope_onto sorted [] = sorted
scope_onto sorted (e ∷ es) = scope_onto (slot_onto sorted e.0 e.1) es

-- The variables and elements of a scope that have a value, in byte order of names.
abbrev pub values_of : Scope → Entries (List ℕ)
values_of scope = scope_onto [] scope
