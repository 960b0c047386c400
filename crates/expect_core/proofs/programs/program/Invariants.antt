use Rattle.std.proofs.Common.{◌≡◌, [], drop}
use Rattle.expect_core.specs.Programs.{program_behind}
use Rattle.expect_core.proofs.programs.program.Given as goal

abbrev pub invariant-words : goal.invariant-words
invariant-words l = program_behind l.all (drop l.word-index l.words) ≡ program_behind [] l.words
