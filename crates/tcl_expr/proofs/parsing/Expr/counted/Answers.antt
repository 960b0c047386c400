use Rattle.std.proofs.Common.{refl, arith, rules}
use Rattle.tcl_expr.specs.Instr.{op_view}
use Rattle.tcl_expr.specs.Run.{Serves}
use Rattle.tcl_expr.proofs.Advancing.{is_next}
use Rattle.tcl_expr.proofs.Counting.{counted_none, counted_on, number_comes}
use Rattle.tcl_expr.proofs.parsing.Expr.counted.Goals as goal

pub loop-log-init : goal.loop-log-init
unfolding Serves
loop-log-init g c = record {
  code = search rules;
  counted = counted_none c.args.self.now c.args.log.now c.requires.serves c.requires.fresh;
}

pub loop-log-preserved : goal.loop-log-preserved
loop-log-preserved g c =
    let ops = c.as_slice-ops.result.now in
    let log = c.loop-log.log in
    let next = is_next ops c.args.self.now log.at c.index-ops-log.result c.index-ops-log.result c.loop-log.invariant.code (omega arith) c.index-ops-log.is in
    record {
      code = c.loop-log.invariant.code;
      counted = counted_on ops c.args.self.now c.in-Went.n c.min.result log c.count.new.self _ c.loop-log.invariant.code (rw c.in-Went.ensures.went.at at c.min.ensures) refl refl refl c.loop-log.invariant.counted (op_view c.index-ops-log.result) next c.in-Went.ensures;
    }

pub returns : goal.returns
returns g c = number_comes c.as_slice-ops.result.now c.args.self.now c.loop-log.log c.number.result c.loop-log.invariant.code (omega arith) c.number.ensures c.loop-log.invariant.counted
