-- Reading, setting and unsetting a variable in a command.
use Rattle.std.specs.Prelude.{ℕ, List, [], ◌∷◌, Result, Ok, Err}
use Rattle.tcl_subst.specs.declared.faults.SubstFault.{SubstFault}
use Rattle.tcl_subst.specs.Variables.{Variables, value_of, with_value, without_value}
use Rattle.tcl_subst.specs.Writes.{set_to}
use Rattle.tcl_results.specs.Texts.{not_read, not_set}
use Rattle.tcl_results.specs.Said.{Said, Outcome, told, on_changed}

abbrev pub or_not_read : List ℕ → Result (List ℕ) SubstFault → Said (List ℕ)
or_not_read name (Ok value) = Ok value
or_not_read name (Err f) = Err (not_read name f)

-- The value of a variable.
abbrev pub read : List ℕ → Variables → Said (List ℕ)
read name vars = or_not_read name (value_of name vars)

-- The outcome of a change: the new value of the variable.
abbrev pub written_to : List ℕ → Variables → Result Variables SubstFault → Outcome
written_to name old new = on_changed old (not_set name) new (λ vars. told (read name vars) vars)

-- Sets a variable to a value, if there is one.
abbrev pub set_if_said : List ℕ → Said (List ℕ) → Variables → Outcome
set_if_said name (Err text) vars = told (Err text) vars
set_if_said name (Ok value) vars = on_changed vars (not_set name) (with_value (set_to value) name vars) (λ new. told (Ok value) new)

-- The variables after a change, or the old ones if it failed.
abbrev pub changed_or : Variables → Result Variables SubstFault → Variables
changed_or old (Ok new) = new
changed_or old (Err f) = old

-- Unsets variables in order. One that can't be unset is skipped.
abbrev pub unset_quietly : List (List ℕ) → Variables → Outcome
unset_quietly [] vars = told (Ok []) vars
unset_quietly (name ∷ names) vars = unset_quietly names (changed_or vars (without_value name vars))

-- A missing element is empty.
abbrev pub first : List (List ℕ) → List ℕ
first [] = []
first (e ∷ es) = e

abbrev pub others : List (List ℕ) → List (List ℕ)
others [] = []
others (e ∷ es) = es

-- Sets each name to an element, in order, up to the first that can't be set.
abbrev pub assigned : List (List ℕ) → List (List ℕ) → Variables → Outcome
assigned [] es vars = told (Ok []) vars
assigned (name ∷ names) es vars = on_changed vars (not_set name) (with_value (set_to (first es)) name vars) (assigned names (others es))
