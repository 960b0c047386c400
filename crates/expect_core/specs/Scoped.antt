-- Variables as commands of Expect use them (expect(1)). A command reads the current scope, or else the outermost one.
-- It sets the current scope.
use Rattle.std.specs.Prelude.{ℕ, List, [], ◌∷◌, Option, Some, None, Result, Ok, Err, if◌then◌else◌}
use Rattle.tcl_subst.specs.declared.faults.SubstFault.{SubstFault}
use Rattle.tcl_subst.specs.Slots.{read}
use Rattle.tcl_subst.specs.Variables.{Variables, value_of, with_value}
use Rattle.tcl_subst.specs.Writes.{set_to}
use Rattle.tcl_results.specs.Texts.{is_missing, not_read, not_set}
use Rattle.tcl_results.specs.Said.{Said}

abbrev pub or_global : List ℕ → Variables → Result (List ℕ) SubstFault → Result (List ℕ) SubstFault
or_global name vars (Ok value) = Ok value
or_global name vars (Err f) = if is_missing f then read name vars.globals else Err f

-- The value of a variable.
abbrev pub scoped : List ℕ → Variables → Result (List ℕ) SubstFault
scoped name vars = or_global name vars (value_of name vars)

abbrev pub if_there : List ℕ → Result (List ℕ) SubstFault → Said (Option (List ℕ))
if_there name (Ok value) = Ok (Some value)
if_there name (Err f) = if is_missing f then Ok None else Err (not_read name f)

-- The value of a variable, or `None` if there is no such variable.
abbrev pub optional : List ℕ → Variables → Said (Option (List ℕ))
optional name vars = if_there name (scoped name vars)

abbrev pub as_said : List ℕ → Result (List ℕ) SubstFault → Said (List ℕ)
as_said name (Ok value) = Ok value
as_said name (Err f) = Err (not_read name f)

-- The value of a variable, or an error if it can't be read.
abbrev pub needed : List ℕ → Variables → Said (List ℕ)
needed name vars = as_said name (scoped name vars)

-- The error for a variable that can't be set.
abbrev pub Unset : Type 0
Unset = Option (List ℕ)

abbrev pub set_then : List ℕ → Result Variables SubstFault → Variables → (Variables → Variables × Unset) → Variables × Unset
set_then name (Ok new) old more = more new
set_then name (Err f) old more = (old, Some (not_set name f))

-- The variables are set in order, up to the first that can't be set.
abbrev pub set_all : List (List ℕ × List ℕ) → Variables → Variables × Unset
set_all [] vars = (vars, None)
set_all (p ∷ ps) vars = set_then p.0 (with_value (set_to p.1) p.0 vars) vars (set_all ps)
