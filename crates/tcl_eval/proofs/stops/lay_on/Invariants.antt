use Rattle.std.proofs.Common.{◌≡◌, ◌+◌, length}
use Rattle.tcl_eval.specs.Potential.{bodies}
use Rattle.tcl_eval.specs.Native.{laid_rest}
use Rattle.tcl_eval.specs.Rest.{frames_rest}
use Rattle.tcl_eval.proofs.stops.lay_on.Given as goal

abbrev pub invariant-frames : goal.invariant-frames
invariant-frames l = record {
  same : laid_rest l.laid (frames_rest l.stack) ≡ laid_rest l.fn.laid (frames_rest l.fn.stack);
  even : bodies l.laid + bodies l.stack ≡ bodies l.fn.laid + bodies l.fn.stack;
}

abbrev pub decreases-frames : goal.decreases-frames
decreases-frames l = length l.laid
