use Rattle.std.proofs.Common.{◌≡◌, ◌+◌, ◌*◌, ◌≤◌, length}
use Rattle.tcl_eval.specs.Native.{Known, ended, owed}
use Rattle.tcl_eval.specs.Potential.{bodies}
use Rattle.tcl_eval.specs.Rest.{frames_rest, now_of}
use Rattle.tcl_eval.proofs.engine.Engine.settle_by.Given as goal

abbrev pub invariant-frames : goal.invariant-frames
invariant-frames l = record {
  same : Known l.now → Known l.fn.out × (ended l.now (now_of l.self) (frames_rest l.self.stack) ≡ ended l.fn.out (now_of l.fn.self) (frames_rest l.fn.self.stack));
  down : 8 * l.self.left + bodies l.self.stack + owed 0 l.now ≤ 8 * l.fn.self.left + bodies l.fn.self.stack + owed 0 l.fn.out;
  less : l.self.left ≤ l.fn.self.left;
}

abbrev pub decreases-frames : goal.decreases-frames
decreases-frames l = length l.self.stack
