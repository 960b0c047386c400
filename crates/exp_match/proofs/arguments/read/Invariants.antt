use Rattle.std.proofs.Common.{◌≡◌, drop}
use Rattle.exp_match.specs.Arguments.{read_on, patterns_of}
use Rattle.exp_match.proofs.arguments.read.Given as goal

abbrev pub invariant-loop-at : goal.invariant-loop-at
invariant-loop-at l = read_on (drop l.at l.args) l.at l.reader ≡ patterns_of l.args
