use Rattle.std.proofs.Common.{ap, ◌∙◌, arith}
use Rattle.tcl_expr.specs.Instr.{op_view}
use Rattle.tcl_expr.specs.declared.progress.Operands.{Operands}
use Rattle.tcl_expr.specs.Run.{Serves}
use Rattle.tcl_expr.proofs.Advancing.{is_next, went_serves, fault_tells, asks_tell, answer_tells}
use Rattle.tcl_expr.proofs.parsing.Expr.advance.Goals as goal

pub loop-log-preserved : goal.loop-log-preserved
unfolding Serves
loop-log-preserved c =
    let ops = c.as_slice-ops.result.now in
    let log = c.loop-log.log in
    let next = is_next ops c.args.self.now log.at c.index-ops-log.result c.index-ops-log.result c.loop-log.invariant.code (omega arith) c.index-ops-log.is in
    record {
      code = c.loop-log.invariant.code;
      serves = went_serves ops c.args.self.now (op_view c.index-ops-log.result) c.in-Went.n c.min.result log c.perform.new.self c.loop-log.invariant.code next c.loop-log.invariant.serves c.in-Went.ensures (rw c.in-Went.ensures.at at c.min.ensures);
      given = c.in-Went.ensures.given ∙ c.loop-log.invariant.given;
    }

pub returns-in-Asks-clause-tells : goal.returns-in-Asks-clause-tells
returns-in-Asks-clause-tells c =
    let ops = c.as_slice-ops.result.now in
    let log = c.loop-log.log in
    let next = is_next ops c.args.self.now log.at c.index-ops-log.result c.index-ops-log.result c.loop-log.invariant.code (omega arith) c.index-ops-log.is in
    asks_tell c.needed.result c.args.self.now (op_view c.index-ops-log.result) c.perform.new.self.at log c.perform.new.self c.args.log.now.given next c.loop-log.invariant.serves c.loop-log.invariant.given c.in-Asks.ensures
    (ap (λ (l : Operands). l.at) c.in-Asks.ensures.kept) c.needed.ensures

pub returns-in-Failed-clause-tells : goal.returns-in-Failed-clause-tells
returns-in-Failed-clause-tells c =
    let ops = c.as_slice-ops.result.now in
    let log = c.loop-log.log in
    let next = is_next ops c.args.self.now log.at c.index-ops-log.result c.index-ops-log.result c.loop-log.invariant.code (omega arith) c.index-ops-log.is in
    fault_tells c.in-Failed.fault c.args.self.now (op_view c.index-ops-log.result) log c.perform.new.self c.args.log.now.given next c.loop-log.invariant.serves c.loop-log.invariant.given c.in-Failed.ensures

pub returns-clause-tells : goal.returns-clause-tells
returns-clause-tells c = answer_tells c.answer.result c.as_slice-ops.result.now c.args.self.now c.loop-log.log c.args.log.now.given c.loop-log.invariant.code (omega arith) c.loop-log.invariant.serves c.loop-log.invariant.given c.answer.ensures
