-- The three ways to write a value.
use Rattle.std.specs.Prelude.{ℕ, List, ◌++◌, length, Result, Ok, Err}
use Rattle.tcl_values.specs.declared.faults.GrowFault.{GrowFault}
use Rattle.tcl_values.specs.Lists.{with_elements}
use Rattle.tcl_subst.specs.declared.faults.SubstFault.{SubstFault}
use Rattle.tcl_subst.specs.declared.write.Write.{Write}
use Rattle.tcl_subst.specs.declared.write.Write.TheVariants.{Set, Append, Elements}
use Rattle.tcl_subst.specs.Faults.{of_grow_fault, limit, fitting}

abbrev pub of_growth : Result (List ℕ) GrowFault → Result (List ℕ) SubstFault
of_growth (Ok value) = Ok value
of_growth (Err f) = Err (of_grow_fault f)

-- Replaces the value.
abbrev pub set_to : List ℕ → List ℕ → Result (List ℕ) SubstFault
set_to value old = fitting (length value) value

-- Appends bytes to the value.
abbrev pub appended : List ℕ → List ℕ → Result (List ℕ) SubstFault
appended bytes old = fitting (length (old ++ bytes)) (old ++ bytes)

-- Appends elements to the list that the value is.
abbrev pub elements_appended : List (List ℕ) → List ℕ → Result (List ℕ) SubstFault
elements_appended more old = of_growth (with_elements limit old more)

-- The new value that a write gives for an old one.
abbrev pub write_of : Write → List ℕ → Result (List ℕ) SubstFault
write_of (Set value) old = set_to value old
write_of (Append bytes) old = appended bytes.now old
write_of (Elements more) old = elements_appended more.now old
