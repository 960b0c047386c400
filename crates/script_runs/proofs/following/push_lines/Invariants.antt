use Rattle.std.proofs.Common.{◌≡◌, ◌++◌, drop, true}
use Rattle.script_runs.specs.Follow.{marked}
use Rattle.script_runs.proofs.following.push_lines.Given as goal

abbrev pub invariant-loop-i : goal.invariant-loop-i
invariant-loop-i l = l.text ++ marked l.mark l.begins (drop l.i l.lines) ≡ l.initial.text ++ marked l.mark true l.lines
