use Rattle.std.proofs.Common.{◌≡◌, ◌-◌, length, map}
use Rattle.tcl_expr.specs.Instr.{op_view, postfix}
use Rattle.tcl_expr.proofs.Counting.{Counted}
use Rattle.tcl_expr.proofs.parsing.Expr.counted.Given as goal

abbrev pub invariant-loop-log : goal.invariant-loop-log
invariant-loop-log g l = record {
  code : map op_view l.ops ≡ postfix l.self;
  counted : Counted (g.R.Readings.tells l.readings) l.self l.log;
}

abbrev pub decreases-loop-log : goal.decreases-loop-log
decreases-loop-log g l = length l.ops - l.log.at
