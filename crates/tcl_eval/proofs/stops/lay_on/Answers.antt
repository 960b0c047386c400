use Rattle.tcl_eval.proofs.Natives.{lay_step, lay_even}
use Rattle.tcl_eval.proofs.stops.lay_on.Goals as goal

pub frames-preserved : goal.frames-preserved
frames-preserved c = record {
  same = lay_step c.frames.laid c.pop.new.self c.frames.stack c.push.new.self c.in-Some.frame _ c.in-Some.ensures c.in_ok-push.ensures.pushed c.frames.invariant.same;
  even = lay_even c.frames.laid c.pop.new.self c.frames.stack c.push.new.self c.in-Some.frame _ c.in-Some.ensures c.in_ok-push.ensures.pushed c.frames.invariant.even;
}
