-- The initial variables of a script.
use Rattle.std.specs.Prelude.{ℕ, Bool, List, [], ◌∷◌, codes, Result, Ok, Err, if◌then◌else◌}
use Rattle.tcl_subst.specs.declared.faults.SubstFault.{SubstFault}
use Rattle.tcl_subst.specs.Variables.{Variables, no_variables, with_value, with_array}
use Rattle.tcl_subst.specs.Writes.{set_to}

-- The variables after a change, or the old ones if the change fails.
abbrev pub or_same : Variables → Result Variables SubstFault → Variables
or_same old (Ok new) = new
or_same old (Err f) = old

abbrev pub setting : List ℕ → List ℕ → Variables → Variables
setting name value vars = or_same vars (with_value (set_to value) name vars)

-- Sets variables, one after another.
abbrev pub with_variables : List (List ℕ × List ℕ) → Variables → Variables
with_variables [] vars = vars
with_variables (p ∷ ps) vars = with_variables ps (setting p.0 p.1 vars)

-- Makes a variable an array, without elements.
abbrev pub as_array : List ℕ → Variables → Variables
as_array name vars = or_same vars (with_array name vars)

-- With the setting `host`, `any_spawn_id` is `any`.
abbrev pub hosted : Bool → Variables → Variables
hosted host vars = if host then setting (codes "any_spawn_id") (codes "any") vars else vars

-- `timeout` is 10, and `env` is an array without elements. Then the variables of the settings are set.
abbrev pub first_variables : Bool → List (List ℕ × List ℕ) → Variables
first_variables host pairs = with_variables pairs (hosted host (as_array (codes "env") (setting (codes "timeout") (codes "10") no_variables)))
