use Rattle.std.proofs.Common.{◌≡◌, ◌++◌, take}
use Rattle.expect_prog.specs.Given.{scripts_given}
use Rattle.expect_prog.proofs.files.push_scripts.Given as goal

abbrev pub invariant-loop-source : goal.invariant-loop-source
invariant-loop-source l = l.scripts.items ≡ l.initial.scripts.items ++ scripts_given l.settings (take l.source-index l.sources)
