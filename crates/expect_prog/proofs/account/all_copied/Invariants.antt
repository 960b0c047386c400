use Rattle.std.proofs.Common.{◌≡◌, take}
use Rattle.expect_prog.proofs.account.all_copied.Given as goal

abbrev pub invariant-loop-script : goal.invariant-loop-script
invariant-loop-script l = l.made.items ≡ take l.script-index l.scripts
