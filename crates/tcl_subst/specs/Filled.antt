-- The result of a substitution that evaluates no script.
use Rattle.tcl_subst.specs.declared.whole.Filled.{Filled}
use Rattle.tcl_subst.specs.declared.whole.Filled.TheVariants.{Value, Fault, Script}
use Rattle.tcl_subst.specs.Filling.{Fill, Full, Asks, Failed}

abbrev pub filled : Fill → Filled
filled (Full value) = Value value
filled (Asks text more) = Script
filled (Failed fault name) = Fault fault name
