use Rattle.std.proofs.Common.{◌≡◌, take}
use Rattle.expect_prog.specs.Given.{all_scripts}
use Rattle.expect_prog.proofs.files.scripts_of.Given as goal

abbrev pub invariant-loop-row : goal.invariant-loop-row
invariant-loop-row l = l.scripts.items ≡ all_scripts l.order l.vars (take l.row-index l.rows) l.sources
