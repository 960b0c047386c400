use Rattle.std.proofs.Common.{◌≡◌, drop}
use Rattle.exp_glob.specs.Stars.{behind_star}
use Rattle.exp_glob.proofs.runs.star_end.Given as goal

abbrev pub invariant-loop-i : goal.invariant-loop-i
invariant-loop-i l = behind_star (drop l.i l.elements) ≡ behind_star l.elements
