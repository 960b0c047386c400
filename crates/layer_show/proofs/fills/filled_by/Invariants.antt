use Rattle.std.proofs.Common.{◌≡◌}
use Rattle.tcl_subst.specs.Rests.{rest}
use Rattle.layer_show.specs.Spoken.{spoken}
use Rattle.layer_show.proofs.fills.filled_by.Given as goal

abbrev pub invariant-scripts : goal.invariant-scripts
invariant-scripts l = (spoken (rest l.filler l.vars) l.vars ≡ spoken (rest l.initial.filler l.initial.vars) l.initial.vars) × (l.vars ≡ l.initial.vars)
