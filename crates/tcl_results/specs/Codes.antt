-- How a file or a script ends whose last command ended with a code (source(n), return(n)).
use Rattle.tcl_results.specs.declared.code.Code.{Code}
use Rattle.tcl_results.specs.declared.code.Code.TheVariants as code
use Rattle.tcl_results.specs.declared.code.Carried.{Carried}
use Rattle.tcl_results.specs.declared.code.Carried.TheVariants as carried

-- The code that `return` carries.
abbrev pub carried_code : Carried → Code
carried_code carried.Ok = code.Ok
carried_code carried.Error = code.Error
carried_code carried.Return = code.Return carried.Ok
carried_code carried.Break = code.Break
carried_code carried.Continue = code.Continue

-- A file or a script may return early, with the code that `return` carries.
abbrev pub script_code : Code → Code
script_code (code.Return c) = carried_code c
script_code c = c
