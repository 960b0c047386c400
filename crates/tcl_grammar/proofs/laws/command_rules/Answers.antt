use Rattle.tcl_grammar.proofs.Ruled.{is_next, next_is, is_last, last_is, one_next, fault_is}
use Rattle.tcl_grammar.proofs.laws.command_rules.Goals as goal

pub returns-clause-some : goal.returns-clause-some
returns-clause-some c = λ text at next words. (is_next text at next words, next_is text at next words)

pub returns-clause-none : goal.returns-clause-none
returns-clause-none c = λ text at. (is_last text at, last_is text at)

pub returns-clause-one : goal.returns-clause-one
returns-clause-one c = one_next

pub returns-clause-fault : goal.returns-clause-fault
returns-clause-fault c = fault_is
