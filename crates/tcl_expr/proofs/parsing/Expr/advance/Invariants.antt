use Rattle.std.proofs.Common.{◌≡◌, ◌-◌, length, map}
use Rattle.tcl_expr.specs.Instr.{op_view, postfix}
use Rattle.tcl_expr.specs.Run.{Serves}
use Rattle.tcl_expr.proofs.parsing.Expr.advance.Given as goal

abbrev pub invariant-loop-log : goal.invariant-loop-log
invariant-loop-log l = record {
  code : map op_view l.ops ≡ postfix l.self;
  serves : Serves l.self l.log;
  given : l.log.given ≡ l.fn.log.given;
}

abbrev pub decreases-loop-log : goal.decreases-loop-log
decreases-loop-log l = length l.ops - l.log.at
