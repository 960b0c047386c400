use Rattle.std.proofs.Common.{◌≡◌, drop}
use Rattle.child_timeline.specs.Typescript.{behind_line}
use Rattle.child_timeline.proofs.typescript.behind_line.Given as goal

abbrev pub invariant-loop-i : goal.invariant-loop-i
invariant-loop-i l = behind_line l.text ≡ behind_line (drop l.i l.text)
