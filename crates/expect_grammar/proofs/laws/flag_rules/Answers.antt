use Rattle.std.proofs.Common.{[]}
use Rattle.expect_grammar.proofs.Flagged.{flags_is, is_flags, fault_is, is_fault, one_reading, one_text, never_both, always}
use Rattle.expect_grammar.proofs.laws.flag_rules.Goals as goal

pub returns-clause-flags : goal.returns-clause-flags
returns-clause-flags c = λ name takes words f rest. (is_flags takes name words f rest, flags_is takes name words f rest)

pub returns-clause-fault : goal.returns-clause-fault
returns-clause-fault c = λ name takes words text. (is_fault takes name words text, fault_is takes name words text)

pub returns-clause-one : goal.returns-clause-one
returns-clause-one c = λ takes. one_reading takes []

pub returns-clause-one_fault : goal.returns-clause-one_fault
returns-clause-one_fault c = λ name takes. one_text takes name

pub returns-clause-never_both : goal.returns-clause-never_both
returns-clause-never_both c = λ name takes. never_both takes name

pub returns-clause-always : goal.returns-clause-always
returns-clause-always c = λ name takes. always takes name
