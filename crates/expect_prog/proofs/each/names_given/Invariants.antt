use Rattle.std.proofs.Common.{◌≡◌, ◌++◌, take, map}
use Rattle.command_line.specs.Given.{names_of}
use Rattle.expect_prog.specs.Each.{name_in, names_given}
use Rattle.expect_prog.proofs.each.names_given.Given as goal

abbrev pub invariant-loop-row : goal.invariant-loop-row
invariant-loop-row l = l.names ≡ names_given (take l.row-index l.rows) (names_of l.files)

abbrev pub invariant-loop-file : goal.invariant-loop-file
invariant-loop-file l = l.names ≡ names_given (take l.row-index l.rows) (names_of l.files) ++ map (name_in l.row) (names_of (take l.file-index l.files))
