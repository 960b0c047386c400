use Rattle.expect_grammar.proofs.Texts.{rules, read_is, memory, refused}
use Rattle.expect_grammar.proofs.laws.patterns_are_read.Goals as goal

pub returns-clause-rules : goal.returns-clause-rules
returns-clause-rules c = rules

pub returns-clause-read : goal.returns-clause-read
returns-clause-read c = read_is

pub returns-clause-memory : goal.returns-clause-memory
returns-clause-memory c = memory

pub returns-clause-refused : goal.returns-clause-refused
returns-clause-refused c = refused
