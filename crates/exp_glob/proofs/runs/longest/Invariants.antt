use Rattle.std.proofs.Common.{ℕ, Option, length}
use Rattle.exp_glob.specs.Runs.{FindsLongest}
use Rattle.exp_glob.specs.Literals.{AreLiterals}
use Rattle.exp_glob.proofs.runs.longest.Given as goal

abbrev pub invariant-loop-n : goal.invariant-loop-n
invariant-loop-n l = record {
  onwards : (r : Option ℕ) → FindsLongest l.nocase l.left l.text l.at r → FindsLongest l.nocase l.elements l.text l.from r;
  literals : AreLiterals l.nocase l.left l.sought;
}

abbrev pub decreases-loop-n : goal.decreases-loop-n
decreases-loop-n l = length l.left
