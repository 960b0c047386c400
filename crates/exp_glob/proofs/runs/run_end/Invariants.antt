use Rattle.std.proofs.Common.{◌≡◌, drop}
use Rattle.exp_glob.specs.Runs.{run_end}
use Rattle.exp_glob.proofs.runs.run_end.Given as goal

abbrev pub invariant-loop-element : goal.invariant-loop-element
invariant-loop-element l = run_end l.nocase (drop l.element-index l.elements) l.text l.at ≡ run_end l.nocase l.elements l.text l.from
