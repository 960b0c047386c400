use Rattle.std.proofs.Common.{◌≡◌, ◌++◌, drop}
use Rattle.command_line.specs.Given.{names_of}
use Rattle.command_line.proofs.reading.texts_of.Given as goal

abbrev pub invariant-loop-file : goal.invariant-loop-file
invariant-loop-file l = l.texts ++ names_of (drop l.file-index l.files) ≡ names_of l.files
