use Rattle.std.proofs.Common.{◌≡◌, ◌++◌, take, map}
use Rattle.tcl_patterns.specs.Shown.{shown}
use Rattle.tcl_patterns.proofs.inlining.push_groups.Given as goal

abbrev pub invariant-loop-n : goal.invariant-loop-n
invariant-loop-n l = l.made ≡ l.fn.made ++ map (shown l.indexed l.text) (take l.n l.some)
