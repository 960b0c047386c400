use Rattle.std.proofs.Common.{◌≡◌, drop}
use Rattle.expect_core.specs.Programs.{files_behind}
use Rattle.expect_core.proofs.programs.files_behind.Given as goal

abbrev pub invariant-names : goal.invariant-names
invariant-names l = files_behind l.words (drop l.name-index l.names) l.vars ≡ files_behind l.initial.words l.names l.vars
