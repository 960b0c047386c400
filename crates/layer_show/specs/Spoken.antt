-- The value of a word if each script in it returns its own text.
use Rattle.std.specs.Prelude.{◌≡◌, ◌≢◌, ℕ, List, Result, Ok, Err}
use Rattle.tcl_subst.specs.declared.faults.SubstFault.{SubstFault}
use Rattle.tcl_subst.specs.declared.faults.SubstFault.TheVariants.{Memory}
use Rattle.tcl_subst.specs.Filling.{Fill, Full, Asks, Failed}
use Rattle.tcl_subst.specs.Variables.{Variables}
use Rattle.layer_show.specs.declared.fills.Filling.{Filling}
use Rattle.layer_show.specs.declared.fills.Filling.TheVariants.{Value, Malformed, Refused}

-- The value, or the error and the variable that it concerns.
abbrev pub spoken : Fill → Variables → Result (List ℕ) (SubstFault × List ℕ)
spoken (Full value) vars = Ok value
spoken (Asks text next) vars = spoken (next text vars) vars
spoken (Failed fault name) vars = Err (fault, name)

-- The filling is what is meant. `Memory` says nothing.
abbrev pub Fills : Filling → Result (List ℕ) (SubstFault × List ℕ) → Type 0
Fills (Value value) meant = meant ≡ Ok value
Fills (Malformed fault) meant = ⊥
Fills (Refused fault name) meant = fault ≢ Memory → meant ≡ Err (fault, name)
