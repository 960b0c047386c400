use Rattle.std.proofs.Common.{take}
use Rattle.child_events.proofs.Parts.{Without}
use Rattle.child_events.proofs.fields.split_first.Given as goal

abbrev pub invariant-loop-i : goal.invariant-loop-i
invariant-loop-i l = Without l.separator (take l.i l.bytes)
