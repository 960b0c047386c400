use Rattle.std.proofs.Common.{◌≡◌, drop}
use Rattle.session.specs.First.{with_variables}
use Rattle.session.proofs.first.add_variables.Given as goal

abbrev pub invariant-pairs : goal.invariant-pairs
invariant-pairs l = with_variables (drop l.name-index l.pairs) l.vars ≡ with_variables l.initial.pairs l.initial.vars
