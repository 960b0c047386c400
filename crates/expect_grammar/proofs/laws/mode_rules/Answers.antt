use Rattle.expect_grammar.proofs.Modes.{modes_is, is_modes, bad_word_is, is_bad_word, one_mode, one_bad, never_both}
use Rattle.expect_grammar.proofs.laws.mode_rules.Goals as goal

pub returns-clause-modes : goal.returns-clause-modes
returns-clause-modes c = λ words m. (is_modes words m, modes_is words m)

pub returns-clause-fault : goal.returns-clause-fault
returns-clause-fault c = λ words e. (is_bad_word words e, bad_word_is words e.at)

pub returns-clause-one : goal.returns-clause-one
returns-clause-one c = one_mode

pub returns-clause-one_bad : goal.returns-clause-one_bad
returns-clause-one_bad c = one_bad

pub returns-clause-never_both : goal.returns-clause-never_both
returns-clause-never_both c = never_both
