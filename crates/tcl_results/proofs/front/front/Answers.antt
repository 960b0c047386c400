use Rattle.std.proofs.Common.{◌<◌, length, arith}
use Rattle.tcl_results.specs.Front.{front}
use Rattle.tcl_results.proofs.Fronts.{front_value}
use Rattle.tcl_results.proofs.front.front.Goals as goal

pub loop-at-preserved-then-due : goal.loop-at-preserved-then-due
loop-at-preserved-then-due c =
    let some : c.loop-at.at < length c.args.args.now = omega arith in
    front_value c.args.args.now c.args.allowed c.args.tail c.loop-at.at c.loop-at.due (front c.args.allowed c.args.tail c.args.args.now) c.loop-at.invariant some c.if-due.true
