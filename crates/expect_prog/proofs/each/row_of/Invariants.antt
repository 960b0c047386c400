use Rattle.std.proofs.Common.{◌≡◌, ◌++◌}
use Rattle.std.specs.List.{zip}
use Rattle.expect_prog.proofs.each.row_of.Given as goal

-- what was made, and then what is left of both, is the row
abbrev pub invariant-loop-name : goal.invariant-loop-name
invariant-loop-name l = l.row ++ zip l.name-iterator.a.rest.now l.name-iterator.b.rest.now ≡ zip l.fn.names l.fn.values
