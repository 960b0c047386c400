use Rattle.std.proofs.Common.{◌≡◌, ◌≤◌}
use Rattle.expect_prog.proofs.files.check_files.Given as goal

abbrev pub invariant-loop-path : goal.invariant-loop-path
invariant-loop-path g l = record {
  failures : l.out.failures ≡ 0;
  calls : l.out.calls ≤ 1099511627776;
}
