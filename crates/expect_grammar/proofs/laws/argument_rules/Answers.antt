use Rattle.expect_grammar.proofs.Written.{write_is}
use Rattle.expect_grammar.proofs.Faulted.{bad_is}
use Rattle.expect_grammar.proofs.Derived.{is_written, is_bad, one_list, one_bad, never_both}
use Rattle.expect_grammar.proofs.laws.argument_rules.Goals as goal

pub returns-clause-list : goal.returns-clause-list
returns-clause-list c = λ args list. (is_written args list, write_is args list)

pub returns-clause-fault : goal.returns-clause-fault
returns-clause-fault c = λ args f. (is_bad args f, bad_is args f)

pub returns-clause-one : goal.returns-clause-one
returns-clause-one c = one_list

pub returns-clause-one_bad : goal.returns-clause-one_bad
returns-clause-one_bad c = one_bad

pub returns-clause-never_both : goal.returns-clause-never_both
returns-clause-never_both c = never_both
