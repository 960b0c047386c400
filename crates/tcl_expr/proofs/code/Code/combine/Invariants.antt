use Rattle.std.proofs.Common.{◌≡◌, ◌++◌, replicate}
use Rattle.tcl_expr.specs.Instr.{combine}
use Rattle.tcl_expr.proofs.code.Code.combine.Given as goal

abbrev pub invariant-loop : goal.invariant-loop
invariant-loop l = l.self ≡ l.fn.self ++ replicate l.counter (combine l.op)
